-- What a plain packet in place shows.
use Rattle.std.specs.Prelude.{ℕ, List, take}
use Rattle.amr_frame.specs.declared.codec.Codec.{Codec}
use Rattle.plain_packet.specs.declared.view.PlainPacket.{PlainPacket}
use Rattle.plain_packet.specs.Plain.{packet_in}
use Rattle.spec_packet.specs.RtpReading.{packet_at}
use Rattle.spec_session.specs.Packets.{Packet}

abbrev pub codec_of : PlainPacket → Codec
codec_of view = view.codec

-- its octets
abbrev pub octets_of : PlainPacket → List ℕ
octets_of view = take view.len view.room.now

-- its payload type, and what a session hears of it
abbrev pub type_of : PlainPacket → ℕ
type_of view = (packet_at (octets_of view)).payload_type

abbrev pub heard_in : PlainPacket → Packet
heard_in view = packet_in view.codec (octets_of view)
