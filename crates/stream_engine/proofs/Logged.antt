-- What a writer of logs put of packets, as octets.
use Rattle.std.proofs.Common.{◌≡◌, ℕ, List, [], ◌∷◌, ◌++◌, Option, sym, refl, ap, ◌∙◌, subst, inl, inr, append_assoc}
use Rattle.std.specs.Prelude.{map}
use Rattle.std.specs.Io.KnownBytes.{Appends}
use Rattle.std.proofs.KnownBytes.{Appends-nil, Appends-trans}
use Rattle.std.proofs.lemmas.List.{map-append}
use Rattle.std.proofs.lemmas.List.Concat.{flat_map-append}
use Rattle.amr_frame.specs.Blocks.{GotAtMostPart, GotBlocks, GotPrefix}
use Rattle.amr_frame.specs.Frames.{Frame}
use Rattle.amr_io.proofs.Fronts.{front_of_more, then_front}
use Rattle.amr_io.specs.Told.{AppendsFront}
use Rattle.amr_io.specs.declared.sink.Sink as sink
use Rattle.amr_sender.specs.Sender.{View}
use Rattle.amr_sender.specs.Sends.{Finishes, FinishesPart, Sends, SendsPart, Takes, TakesPart}
use Rattle.log_engine.specs.Puts.{Puts, PutsPart}
use Rattle.rtp_packet.specs.LogWritten.{WrotePacket, WrotePart}
use Rattle.rtp_packet.specs.declared.log_writer.LogWriter.{LogWriter}
use Rattle.rtp_packet.specs.declared.packet_sink.PacketSink as packets
use Rattle.rtp_packet.specs.Written.{written}
use Rattle.spec_packet.specs.Log.{framed, log_of}
use Rattle.spec_packet.specs.Rtp.{RtpPacket}
use Rattle.spec_sending.specs.Sending.{begun, sent}
use Rattle.spec_stream.specs.Streaming.{log_of_packets}
use Rattle.stream_engine.specs.Sends.{SendsBlock, SendsBlockPart, SendsRest, SendsRestPart}

-- the log of more packets
pub logged_more : (less more packets : List RtpPacket) → more ≡ less ++ packets
    → log_of_packets more ≡ log_of_packets less ++ log_of_packets packets
logged_more less more packets e =
    ap log_of_packets e ∙ ap log_of (map-append written less packets)
    ∙ flat_map-append framed (map written less) (map written packets)

-- a sink of packets that writes them as a log to a sink of octets
module _ {O : Type 0} (k : sink.Ghosts O) (p : packets.Ghosts (LogWriter O))
    (whole : (v : LogWriter O) (l : List ℕ) (w : LogWriter O) → p.whole v l w → WrotePacket k v l w)
    (part : (v : LogWriter O) (l : List ℕ) (w : LogWriter O) → p.part v l w → WrotePart k v l w) where
  abbrev got_of : LogWriter O → Option (List ℕ)
  got_of w = k.got w.sink.now

  wrote_all : (v : LogWriter O) (l : List (List ℕ)) (w : LogWriter O) → GotBlocks p.whole v l w
      → Appends (got_of v) (got_of w) (log_of l)
  wrote_all v [] w e =
      subst (λ (u : LogWriter O). Appends (got_of v) (got_of u) []) (sym e) (Appends-nil (got_of v))
  wrote_all v (x ∷ l) w e =
      Appends-trans (got_of v) (got_of e.0) (got_of w) (framed x) (log_of l) (whole v x e.0 e.1).octets
      (wrote_all e.0 l w e.2)

  wrote_none : (v : LogWriter O) (octets : List ℕ) (w : LogWriter O) → w ≡ v
      → AppendsFront (got_of v) (got_of w) octets
  wrote_none v octets w e =
      subst (λ (u : LogWriter O). AppendsFront (got_of v) (got_of u) octets) (sym e)
      ([], octets, refl, Appends-nil (got_of v))

  wrote_at_most : (v : LogWriter O) (l : List (List ℕ)) (w : LogWriter O) → GotAtMostPart p.part v l w
      → AppendsFront (got_of v) (got_of w) (log_of l)
  wrote_at_most v [] w e = wrote_none v [] w e
  wrote_at_most v (x ∷ l) w e = elim e [
    | inl n ↦ wrote_none v (log_of (x ∷ l)) w n
    | inr h ↦ front_of_more (got_of v) (got_of w) (framed x) (log_of l) (part v x w h).octets
  ]

  wrote_front : (v : LogWriter O) (l : List (List ℕ)) (w : LogWriter O) → GotPrefix p.whole p.part v l w
      → AppendsFront (got_of v) (got_of w) (log_of l)
  wrote_front v l w g =
      let text : log_of g.got ++ log_of g.rest ≡ log_of l =
      sym (flat_map-append framed g.got g.rest) ∙ ap log_of (sym g.split) in
      subst (AppendsFront (got_of v) (got_of w)) text
      (then_front (got_of v) (got_of g.between) (got_of w) (log_of g.got) (log_of g.rest)
      (wrote_all v g.got g.between g.steps) (wrote_at_most g.between g.rest w g.end))

  puts : (v w : LogWriter O) (less more : List RtpPacket) → Sends p v w less more
      → Puts (got_of v) (got_of w) (log_of_packets less) (log_of_packets more)
  puts v w less more s = record {
    more = log_of_packets s.packets;
    put = wrote_all v (map written s.packets) w s.got;
    grown = logged_more less more s.packets s.more_by;
  }

  puts_part : (v w : LogWriter O) (less more : List RtpPacket) → SendsPart p v w less more
      → PutsPart (got_of v) (got_of w) (log_of_packets less) (log_of_packets more)
  puts_part v w less more s =
      let f = wrote_front v (map written s.packets) w s.got in
      let before = log_of_packets less in record {
        part = f.0;
        put = f.3;
        within = (
          f.1,
          logged_more less more s.packets s.more_by ∙ ap (λ t. before ++ t) f.2
              ∙ sym (append_assoc before f.0 f.1),
        );
      }

  -- what a writer over a sink put is in the sink that was lent to it
  module _ (a o : O) (v w : LogWriter O) (before : v.sink.now ≡ a) (after : o ≡ w.sink.now) where
    lent : (P : Option (List ℕ) → Option (List ℕ) → Type 0) → P (got_of v) (got_of w)
        → P (k.got a) (k.got o)
    lent P h = subst (λ x. P (k.got a) (k.got x)) (sym after)
        (subst (λ x. P (k.got x) (got_of w)) before h)

    pub block_sent : (s s' : View) (block : List Frame) → Takes p s s' block v w
        → SendsBlock s s' block (k.got a) (k.got o)
    block_sent s s' block t = record {
      stands = t.stands;
      out = λ b stands.
          lent (λ x y. Puts x y (log_of_packets (begun s.plan b)) (log_of_packets (begun s.plan (b ++ block ∷ []))))
          (puts v w (begun s.plan b) (begun s.plan (b ++ block ∷ [])) (t.out b stands));
      blocks = t.blocks;
    }

    pub block_part : (s s' : View) (block : List Frame) → TakesPart p s s' block v w
        → SendsBlockPart s block (k.got a) (k.got o)
    block_part s s' block t = record {
      out = λ b stands.
          lent (λ x y. PutsPart x y (log_of_packets (begun s.plan b)) (log_of_packets (begun s.plan (b ++ block ∷ []))))
          (puts_part v w (begun s.plan b) (begun s.plan (b ++ block ∷ [])) (t.part b stands));
    }

    pub rest_sent : (s s' : View) → Finishes p s s' v w → SendsRest s s' (k.got a) (k.got o)
    rest_sent s s' t = record {
      out = λ b stands.
          lent (λ x y. Puts x y (log_of_packets (begun s.plan b)) (log_of_packets (sent s.plan b)))
          (puts v w (begun s.plan b) (sent s.plan b) (t.out b stands));
      count = t.count;
    }

    pub rest_part : (s : View) → FinishesPart p s v w → SendsRestPart s (k.got a) (k.got o)
    rest_part s t = record {
      out = λ b stands.
          lent (λ x y. PutsPart x y (log_of_packets (begun s.plan b)) (log_of_packets (sent s.plan b)))
          (puts_part v w (begun s.plan b) (sent s.plan b) (t.part b stands));
    }
