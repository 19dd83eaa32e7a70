-- Packets of one frame each, made of the octets of a storage file (RFC 4867, 5.3). This project's
-- own, over bandwidth-efficient payloads (RFC 4867, 4.3).
use Rattle.std.specs.Prelude.{◌≡◌, ℕ, ◌+◌, false, List, [], ◌∷◌, ◌++◌, take, drop}
use Rattle.amr_frame.specs.Frames.{Frame}
use Rattle.amr_sender.specs.Packets.{BeginsWith, said}
use Rattle.amr_sender.specs.Sender.{StandsFor, View}
use Rattle.amr_sender.specs.declared.packet.Head.{Head}
use Rattle.spec_packet.specs.Rtp.{RtpPacket}
use Rattle.spec_payload.specs.Grammar.{text}
use Rattle.spec_sending.specs.Sending.{begun}
use Rattle.spec_sending.specs.declared.plan.SendPlan.{SendPlan}
use Rattle.spec_store.specs.StorageReading.{frame_in}

-- each packet has one frame, in a bandwidth-efficient payload, and none is left out
pub record SendsSingly (s : SendPlan) : Type 0 where
  pub blocks : s.blocks ≡ 1
  pub length : s.length ≡ 1
  pub repeat : s.repeat ≡ 0
  pub skip : s.skip_empty ≡ false
  pub channels : s.profile.channels ≡ 1
  pub packed : s.profile.octet_aligned ≡ false

-- a packet was made of a block: the sender stands for the block too, and the first so many octets
-- are the one packet that is begun by it, as it is written
pub record Makes (v v' : View) (block : List Frame) (octets : List ℕ) (size : ℕ) : Type 0 where
  pub packet : RtpPacket
  pub made : BeginsWith octets size packet
  pub begins : (b : List (List Frame)) → StandsFor v b
      → begun v.plan (b ++ block ∷ []) ≡ begun v.plan b ++ packet ∷ []
  pub stands : (b : List (List Frame)) → StandsFor v b → StandsFor v' (b ++ block ∷ [])
  pub blocks : v'.blocks ≡ v.blocks + 1
  pub unspent : v'.spent ≡ false

-- so many octets behind a header are the payload of the frame that stands first in octets
pub record HasPayload (s : SendPlan) (unit octets : List ℕ) (size : ℕ) : Type 0 where
  pub payload : (head : Head) → take size (drop 12 octets)
      ≡ text s.profile (said s head (frame_in s.profile.codec unit ∷ []))
