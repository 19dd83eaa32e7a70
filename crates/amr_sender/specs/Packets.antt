-- The packet that carries some frames, as the sender makes it. This project's own, over RTP packets
-- (RFC 3550, 5.1) with the payloads of RFC 4867, 4.
use Rattle.std.specs.Prelude.{◌≡◌, ◌⊎◌, ℕ, ◌≤◌, ◌<◌, ◌-◌, ◌*◌, ◌^◌, Bool, ◌&&◌, nat_lt, List, [], take, None, Result, OnOk, OnErr}
use Rattle.amr_frame.specs.declared.cell.Cell.{Cell}
use Rattle.amr_frame.specs.Frames.{Frame}
use Rattle.amr_group.specs.Buffer.{ArePresentBlocks}
use Rattle.amr_sender.specs.declared.packet.Head.{Head}
use Rattle.rtp_packet.specs.declared.fields.RtpFields.{RtpFields}
use Rattle.rtp_packet.specs.declared.packet_sink.PacketSink as packets
use Rattle.rtp_packet.specs.PacketSteps.{PacketStep}
use Rattle.rtp_packet.specs.Written.{written}
use Rattle.spec_packet.specs.Rtp.{RtpPacket}
use Rattle.spec_payload.specs.Grammar.{text}
use Rattle.spec_payload.specs.Values.{Value}
use Rattle.spec_sending.specs.Plans.{carried_blocks}
use Rattle.spec_sending.specs.Sending.{block_of, has_speech, sequence_of, timestamp_of}
use Rattle.spec_sending.specs.declared.plan.SendPlan.{SendPlan}

-- what its payload says: these frames, whose blocks stand a stride apart
abbrev pub said : SendPlan → Head → List Frame → Value
said s head frames = record {
  cmr = s.cmr;
  stride = head.stride;
  index = head.index;
  frames = frames;
}

-- a packet with this head and these frames
abbrev pub packet_with : SendPlan → Head → List Frame → RtpPacket
packet_with s head frames = record {
  marker = head.marked;
  payload_type = s.pt;
  sequence = sequence_of s head.number;
  timestamp = timestamp_of s (record {
    first = head.first;
    stride = head.stride;
    index = head.index;
    count = 0;
  });
  ssrc = s.ssrc;
  sources = [];
  extension = None;
  padding = 0;
  payload = text s.profile (said s head frames);
}

-- the first so many octets are a packet as it is written
pub record BeginsWith (octets : List ℕ) (size : ℕ) (packet : RtpPacket) : Type 0 where
  pub front : take size octets ≡ written packet

-- what a call that puts one packet does: it puts the whole, or a part where the sink failed
pub record PutsPacket {S A E : Type 0} (p : packets.Ghosts S) (old new : S) (packet : RtpPacket)
    (result : Result A E) : Type 0 where
  pub whole : OnOk result (p.whole old (written packet) new)
  pub part : OnErr result (p.part old (written packet) new)
  pub step : PacketStep p old new result

-- fields of a header that fit their places, without sources, extension and padding
pub record IsPlainHeader (f : RtpFields) : Type 0 where
  pub number : f.payload_type ≤ 127
  pub sources : f.sources.now ≡ []
  pub extension : f.extension ≡ None
  pub padding : f.padding ≡ 0

-- a packet of consecutive blocks, or one of a group of the plan
abbrev pub FitsPlan : SendPlan → Head → Type 0
FitsPlan s head = ((head.stride ≡ 1) × (head.index ≡ 0))
    ⊎ ((head.stride ≡ s.length) × (head.index < s.length))

-- cells that are the blocks of one packet with this head: at least one, and at most as many as the
-- plan's packets have with their repeats
pub record CanCarry (s : SendPlan) (head : Head) (cells : List Cell) : Type 0 where
  pub count : ℕ
  pub some : 1 ≤ count
  pub most : count ≤ carried_blocks s
  pub blocks : ArePresentBlocks s.profile.codec s.profile.channels count cells
  pub turn : FitsPlan s head

-- the most blocks that a sender takes
abbrev pub block_limit : ℕ
block_limit = 3 * 2 ^ 54

-- whether block n - 1, where there is one, has a frame of speech
abbrev pub speech_before : SendPlan → List (List Frame) → ℕ → Bool
speech_before s b n = nat_lt 0 n && has_speech s.profile.codec (block_of b (n - 1))
