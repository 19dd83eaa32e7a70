-- What two calls put one after the other.
use Rattle.std.proofs.Common.{◌≡◌, List, ◌++◌, map, sym, ap, ◌∙◌, subst}
use Rattle.std.proofs.lemmas.List.{append_assoc, map-append}
use Rattle.amr_frame.specs.Blocks.{GotBlocks, GotPrefix}
use Rattle.amr_frame.proofs.BlocksLemmas.{GotBlocks-append, GotPrefix-behind}
use Rattle.amr_sender.specs.Sends.{Sends, SendsPart}
use Rattle.rtp_packet.specs.declared.packet_sink.PacketSink as packets
use Rattle.rtp_packet.specs.Written.{written}
use Rattle.spec_packet.specs.Rtp.{RtpPacket}

further : (l m n xs ys : List RtpPacket) → m ≡ l ++ xs → n ≡ m ++ ys → n ≡ l ++ (xs ++ ys)
further l m n xs ys e f = f ∙ ap (λ z. z ++ ys) e ∙ append_assoc l xs ys

pub sends_add : {S : Type 0} (p : packets.Ghosts S) (a b c : S) (l m n : List RtpPacket)
    → Sends p a b l m → Sends p b c m n → Sends p a c l n
sends_add p a b c l m n f g = record {
  packets = f.packets ++ g.packets;
  got = subst (λ xs. GotBlocks p.whole a xs c) (sym (map-append written f.packets g.packets))
      (GotBlocks-append p.whole a (map written f.packets) b (map written g.packets) c f.got g.got);
  more_by = further l m n f.packets g.packets f.more_by g.more_by;
}

pub parts_add : {S : Type 0} (p : packets.Ghosts S) (a b c : S) (l m n : List RtpPacket)
    → Sends p a b l m → SendsPart p b c m n → SendsPart p a c l n
parts_add p a b c l m n f g = record {
  packets = f.packets ++ g.packets;
  got = subst (λ xs. GotPrefix p.whole p.part a xs c) (sym (map-append written f.packets g.packets))
      (GotPrefix-behind p.whole p.part a (map written f.packets) b (map written g.packets) c f.got g.got);
  more_by = further l m n f.packets g.packets f.more_by g.more_by;
}
