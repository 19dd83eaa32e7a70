-- The octets of the worked examples.
use Rattle.std.specs.Prelude.{ℕ, ◌/◌, ◌%◌, ◌^◌, true, false, List, [], ◌∷◌, ◌++◌, replicate, Option, None, Some}
use Rattle.std.specs.Option.{option_map}
use Rattle.amr_frame.specs.declared.codec.Codec.TheVariants.{Amr}
use Rattle.amr_frame.specs.declared.profile.Profile.{Profile}
use Rattle.amr_frame.specs.Frames.{Frame}
use Rattle.amr_bits.specs.Bits.{bits_of, part}
use Rattle.spec_packet.specs.Log.{cut, framed}
use Rattle.spec_record.specs.Recording.{Recording, file_of}
use Rattle.spec_sending.specs.declared.plan.SendPlan.{SendPlan}
use Rattle.spec_session.specs.Counts.{block_count, copy_count, late_count}
use Rattle.spec_session.specs.Packets.{packet_of, packets_of}
use Rattle.spec_session.specs.Session.{Verdict, accepted, rules_of, verdict}

-- so many octets 0
abbrev pub zeros : ℕ → List ℕ
zeros n = replicate n 0

-- AMR, one channel: bandwidth-efficient, and octet-aligned
abbrev pub packed : Profile
packed = record {
  codec = Amr;
  channels = 1;
  octet_aligned = false;
  crc = false;
  sorting = false;
  interleaving = None;
  max_blocks = 64;
  strict = false;
  modes = 255;
}

abbrev pub aligned : Profile
aligned = record packed { octet_aligned = true }

abbrev pub interleaved : ℕ → Profile
interleaved most = record aligned { interleaving = Some most }

-- a payload of one frame of type 7 with Q 1 whose bits are 0
abbrev pub seven : List ℕ
seven = 0xF3 ∷ 0xC0 ∷ zeros 30

-- an RTP packet of payload type 96 with this sequence number, timestamp and source
abbrev four : ℕ → List ℕ
four n = n / 2 ^ 24 ∷ n / 2 ^ 16 % 256 ∷ n / 2 ^ 8 % 256 ∷ n % 256 ∷ []

abbrev pub rtp : ℕ → ℕ → ℕ → List ℕ → List ℕ
rtp sequence timestamp ssrc payload =
    0x80 ∷ 0x60 ∷ sequence / 256 ∷ sequence % 256 ∷ four timestamp ++ four ssrc ++ payload

-- the same of source 0, as a record of a log
abbrev pub rec : ℕ → ℕ → List ℕ → List ℕ
rec sequence timestamp payload = framed (rtp sequence timestamp 0 payload)

-- a recording of a format with this window, a reach of 45000 and any payload type
abbrev pub recording : Profile → ℕ → Recording
recording p window = record { profile = p; asked = None; rules = rules_of p window 45000 }

-- a plan of one block a packet, no groups, no repeats and no skipping; from 0 on, with payload type
-- 96 and no mode request
abbrev pub plan : Profile → SendPlan
plan p = record {
  profile = p;
  blocks = 1;
  length = 1;
  repeat = 0;
  skip_empty = false;
  cmr = 15;
  pt = 96;
  ssrc = 0;
  seq = 0;
  ts = 0;
}

-- the file that is written for a log
abbrev pub file : Profile → List ℕ → List ℕ
file p log = file_of (recording p 256) (cut log).packets

abbrev pub file_in : Profile → ℕ → List ℕ → List ℕ
file_in p window log = file_of (recording p window) (cut log).packets

-- what becomes of a packet that comes after another
abbrev pub verdict_after : Profile → List ℕ → List ℕ → Option Verdict
verdict_after p before packet = let rules = rules_of p 256 45000 in
    let already = accepted rules (packets_of p None (before ∷ [])) in
    option_map (verdict rules already) (packet_of p None packet)

-- the counts of the session in a log
pub record Counts : Type 0 where
  pub late : ℕ
  pub copies : ℕ
  pub blocks : ℕ

abbrev pub counts : Profile → ℕ → List ℕ → Counts
counts p window log = let rules = rules_of p window 45000 in
    let h = packets_of p None (cut log).packets in
    record { late = late_count rules h; copies = copy_count rules h; blocks = block_count rules h }

-- the magic number of AMR, and the header of two channels
abbrev pub magic : List ℕ
magic = 0x23 ∷ 0x21 ∷ 0x41 ∷ 0x4D ∷ 0x52 ∷ 0x0A ∷ []

abbrev pub two_channels : List ℕ
two_channels =
    0x23 ∷ 0x21 ∷ 0x41 ∷ 0x4D ∷ 0x52 ∷ 0x5F ∷ 0x4D ∷ 0x43 ∷ 0x31 ∷ 0x2E ∷ 0x30 ∷ 0x0A
    ∷ 0x00 ∷ 0x00 ∷ 0x00 ∷ 0x02 ∷ []

-- a frame with the first n bits of octets
abbrev pub frame : ℕ → ℕ → List ℕ → Frame
frame ft n octets = record { ft = ft; q = true; bits = part 0 n (bits_of octets) }
