-- What the sink of a sender gets at each call. This project's own.
use Rattle.std.specs.Prelude.{◌≡◌, ◌+◌, true, false, List, [], ◌∷◌, ◌++◌, length, map}
use Rattle.amr_frame.specs.Blocks.{GotBlocks, GotPrefix}
use Rattle.amr_frame.specs.Frames.{Frame}
use Rattle.amr_sender.specs.Sender.{StandsFor, View}
use Rattle.rtp_packet.specs.declared.packet_sink.PacketSink as packets
use Rattle.rtp_packet.specs.Written.{written}
use Rattle.spec_packet.specs.Rtp.{RtpPacket}
use Rattle.spec_sending.specs.Sending.{begun, sent}

-- the sink got the packets that the second list has more, each as it is written
pub record Sends {S : Type 0} (p : packets.Ghosts S) (old new : S) (less more : List RtpPacket)
    : Type 0 where
  pub packets : List RtpPacket
  pub got : GotBlocks p.whole old (map written packets) new
  pub more_by : more ≡ less ++ packets

-- the sink got a prefix of the packets that the second list has more
pub record SendsPart {S : Type 0} (p : packets.Ghosts S) (old new : S)
    (less more : List RtpPacket) : Type 0 where
  pub packets : List RtpPacket
  pub got : GotPrefix p.whole p.part old (map written packets) new
  pub more_by : more ≡ less ++ packets

-- a block was taken: the sender stands for it too, and the sink got the packets that are begun by
-- it
pub record Takes {S : Type 0} (p : packets.Ghosts S) (v v' : View) (block : List Frame)
    (old new : S) : Type 0 where
  pub stands : (b : List (List Frame)) → StandsFor v b → StandsFor v' (b ++ block ∷ [])
  pub out : (b : List (List Frame)) → StandsFor v b
      → Sends p old new (begun v.plan b) (begun v.plan (b ++ block ∷ []))
  pub blocks : v'.blocks ≡ v.blocks + 1
  pub unspent : v'.spent ≡ false

-- the sink failed on a block: it got a prefix of the packets that are begun by it, and the sender
-- is spent
pub record TakesPart {S : Type 0} (p : packets.Ghosts S) (v v' : View) (block : List Frame)
    (old new : S) : Type 0 where
  pub part : (b : List (List Frame)) → StandsFor v b
      → SendsPart p old new (begun v.plan b) (begun v.plan (b ++ block ∷ []))
  pub spent : v'.spent ≡ true

-- the sender was ended: the sink got the rest of the packets that are sent, and all are counted
pub record Finishes {S : Type 0} (p : packets.Ghosts S) (v v' : View) (old new : S) : Type 0 where
  pub out : (b : List (List Frame)) → StandsFor v b
      → Sends p old new (begun v.plan b) (sent v.plan b)
  pub count : (b : List (List Frame)) → StandsFor v b
      → v'.packets ≡ length (sent v.plan b)

-- the sink failed before the end: it got a prefix of the rest
pub record FinishesPart {S : Type 0} (p : packets.Ghosts S) (v : View) (old new : S) : Type 0 where
  pub part : (b : List (List Frame)) → StandsFor v b
      → SendsPart p old new (begun v.plan b) (sent v.plan b)
