-- Three packets of AMR, one channel, each with one frame of type 7: one before the timestamps wrap,
-- and two of the frame time behind it, of which one has the better frame.
use Rattle.std.specs.Prelude.{ℕ, ◌-◌, ◌^◌, Bool, true, false, List, [], ◌∷◌}
use Rattle.amr_frame.specs.Frames.{Frame}
use Rattle.amr_frame.specs.declared.codec.Codec.TheVariants.{Amr}
use Rattle.spec_session.specs.Packets.{Packet}
use Rattle.spec_session.specs.Session.{Rules}

abbrev pub rules : Rules
rules = record { codec = Amr; channels = 1; window = 256; reach = 45000 }

-- a frame by its first bit, the only one that is written here
abbrev pub frame : Bool → Frame
frame bit = record { ft = 7; q = true; bits = bit ∷ [] }

abbrev pub packet : ℕ → ℕ → Bool → Packet
packet sequence timestamp bit = record {
  ssrc = 0;
  sequence = sequence;
  timestamp = timestamp;
  value = record { cmr = 15; stride = 1; index = 0; frames = frame bit ∷ [] };
}

abbrev pub before : Packet
before = packet 0 (2 ^ 32 - 160) false

abbrev pub better : Packet
better = packet 1 0 true

abbrev pub worse : Packet
worse = packet 2 0 false

-- an order of the three, and another with a repeat
abbrev pub first : List Packet
first = before ∷ better ∷ worse ∷ []

abbrev pub other : List Packet
other = worse ∷ before ∷ better ∷ before ∷ []
