-- What a view of an RTP packet stands for (RFC 3550, 5.1). The view is ours.
use Rattle.std.specs.Prelude.{ℕ, List, Result, Ok, Err}
use Rattle.spec_packet.specs.Rtp.{Extension, RtpPacket}
use Rattle.spec_packet.specs.RtpReading.{packet_at}
use Rattle.spec_packet.specs.declared.refusal.RtpRefusal.{RtpRefusal}
use Rattle.rtp_packet.specs.declared.view.RtpView.{RtpView}

-- the fields of the packet that it was made of
abbrev pub packet : RtpView → RtpPacket
packet view = packet_at view.octets.now

-- what was read, by its fields
abbrev pub read_of : Result RtpView RtpRefusal → Result RtpPacket RtpRefusal
read_of (Ok view) = Ok (packet view)
read_of (Err refusal) = Err refusal

-- an extension with these 16 bits and octets
abbrev pub extension_of : ℕ → List ℕ → Extension
extension_of bits octets = record { profile_bits = bits; octets = octets }
