-- Copies in time: the frames of accepted packets that came before their frame time left the window. Sequence
-- numbers play no part. This project's own.
use Rattle.std.specs.Prelude.{ℕ, ◌/◌, ◌%◌, Bool, true, List, length, map, filter, slice_index_or, ℤ, pos, ◌-ℤ◌, int_lt, Option, Some, None, flat_map}
use Rattle.std.specs.List.{range_with_len}
use Rattle.amr_frame.specs.Frames.{Frame, no_data}
use Rattle.spec_session.specs.Packets.{Packet}
use Rattle.spec_session.specs.Session.{Rules, Accepted, block_place, accepted}

-- a frame that came in time, with its frame time and channel
pub record Copy : Type 0 where
  pub place : ℤ
  pub channel : ℕ
  pub frame : Frame

-- whether a place is past the horizon less the window; before the first packet every place is
abbrev pub is_after : ℕ → Option ℤ → ℤ → Bool
is_after window None place = true
is_after window (Some h) place = int_lt (h -ℤ pos window) place

-- whether a place of an accepted packet is in time, by the horizon before the packet
abbrev pub in_time : Rules → Accepted → ℤ → Bool
in_time rules a place = is_after rules.window a.before place

-- frame i of an accepted packet, with its place and channel
abbrev pub copy_at : Rules → Accepted → ℕ → Copy
copy_at rules a i = record {
  place = block_place a (i / rules.channels);
  channel = i % rules.channels;
  frame = slice_index_or a.packet.value.frames i no_data;
}

-- the copies in time of an accepted packet, in the order of its frames
abbrev pub copies_in : Rules → Accepted → List Copy
copies_in rules a = filter (λ (c : Copy). in_time rules a c.place)
    (map (copy_at rules a) (range_with_len 0 (length a.packet.value.frames)))

-- the copies in time of accepted packets
abbrev pub copies_of : Rules → List Accepted → List Copy
copies_of rules packets = flat_map (copies_in rules) packets

-- the copies in time of a list of well-formed packets
abbrev pub copies : Rules → List Packet → List Copy
copies rules h = copies_of rules (accepted rules h)
