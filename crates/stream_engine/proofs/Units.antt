-- Frames that are held, sent one by one where they stand.
use Rattle.std.proofs.Common.{◌≡◌, ℕ, zero, suc, ◌+◌, ◌≤◌, true, false, List, [], ◌∷◌, ◌++◌, length, take, drop, Option, None, Some, refl, sym, ap, subst, ◌∙◌, arith, append-nil, append_assoc}
use Rattle.std.specs.Borrow.{MutBor}
use Rattle.std.specs.Io.KnownBytes.{Appends, Consumes, append_known}
use Rattle.std.proofs.KnownBytes.{Appends-trans}
use Rattle.std.proofs.lemmas.List.{length-take-le, take-append-drop, take-take}
use Rattle.amr_frame.specs.declared.codec.Codec.{Codec}
use Rattle.amr_frame.specs.Frames.{Frame}
use Rattle.amr_frame.specs.Tables.{is_reserved}
use Rattle.amr_io.specs.declared.sink.Sink as sink
use Rattle.amr_sender.specs.Sender.{StandsFor, View}
use Rattle.amr_sender.specs.Single.{Makes}
use Rattle.amr_store.specs.Passing.{Passes, StandsAhead}
use Rattle.amr_store.specs.Reading.{codec_of, held}
use Rattle.amr_store.specs.declared.front.UnitAhead.{UnitAhead}
use Rattle.amr_store.specs.declared.reader.StoreReader.{StoreReader}
use Rattle.log_engine.proofs.GrowsLemmas.{Grows-refl, same_through}
use Rattle.log_engine.specs.Tray.{Grows}
use Rattle.log_engine.specs.Turns.{SameSink, logical}
use Rattle.log_engine.specs.declared.gather_sink.GatherSink.{GatherSink}
use Rattle.rtp_packet.specs.Written.{written}
use Rattle.spec_packet.specs.Log.{framed, log_of}
use Rattle.spec_packet.specs.Rtp.{RtpPacket}
use Rattle.spec_sending.specs.Sending.{begun}
use Rattle.spec_sending.specs.declared.plan.SendPlan.{SendPlan}
use Rattle.spec_store.specs.StorageReading.{blocks_in, frame_in, is_unit, unit_type}
use Rattle.spec_stream.specs.Streaming.{begun_log, file_blocks, log_of_packets}
use Rattle.stream_engine.specs.Held.{SendsHeld, SentHeld}
use Rattle.stream_engine.specs.Progress.{Going, Out, Start}
use Rattle.stream_engine.specs.Reading.{IsReading}
use Rattle.stream_engine.proofs.Logged.{logged_more}
use Rattle.stream_engine.proofs.Stops.{for_plan}

-- the log of a packet more
log_more : (less more : List RtpPacket) (packet : RtpPacket) → more ≡ less ++ packet ∷ []
    → log_of_packets more ≡ log_of_packets less ++ framed (written packet)
log_more less more packet e =
    logged_more less more (packet ∷ []) e
    ∙ ap (λ l. log_of_packets less ++ l) (append-nil (framed (written packet)))

-- a packet that was made and put behind its length is what a block more makes of the log
pub unit_sent : (v v' : View) (block block' : List Frame) (octets : List ℕ) (size : ℕ)
    (head waiting waiting' : List ℕ)
    → Makes v v' block octets size → block' ≡ block
    → head ++ take size octets ≡ framed (take size octets)
    → waiting' ≡ (waiting ++ head) ++ take size octets
    → SendsHeld v v' block' waiting waiting'
unit_sent v v' block block' octets size head waiting waiting' m same framed_is put = record {
  more = framed (written m.packet);
  put = put ∙ append_assoc waiting head (take size octets) ∙ ap (λ l. waiting ++ l) framed_is
      ∙ ap (λ l. waiting ++ framed l) m.made.front;
  stands = λ b stands. subst (λ k. StandsFor v' (b ++ k ∷ [])) (sym same) (m.stands b stands);
  log = λ b stands.
      log_more (begun v.plan b) (begun v.plan (b ++ block' ∷ [])) m.packet
      (ap (λ k. begun v.plan (b ++ k ∷ [])) same ∙ m.begins b stands);
  blocks = m.blocks;
}

-- a frame that stands ahead has a type that there is, and its own octets stand first of the 61
first_type : (n m : ℕ) (octets : List ℕ)
    → unit_type (take (suc n) octets) ≡ unit_type (take (suc m) octets)
first_type n m [] = refl
first_type n m (o ∷ rest) = refl

type_of_front : (n m : ℕ) (octets : List ℕ) → 1 ≤ n → 1 ≤ m
    → unit_type (take n octets) ≡ unit_type (take m octets)
type_of_front zero m octets a b = absurd (omega (arith, a))
type_of_front (suc n) zero octets a b = absurd (omega (arith, b))
type_of_front (suc n) (suc m) octets a b = first_type n m octets

pub unit_known : (codec : Codec) (octets : List ℕ) (unit : UnitAhead) → StandsAhead codec octets unit
    → is_reserved codec (unit_type unit.octets.now) ≡ false
unit_known codec octets unit h =
    let some = h.holds.some in
    ap (is_reserved codec) (ap unit_type h.front
    ∙ type_of_front 61 unit.size octets (omega arith) some) ∙ h.holds.first.known

pub own_first : (codec : Codec) (octets : List ℕ) (unit : UnitAhead) → StandsAhead codec octets unit
    → unit.octets.now ≡ take unit.size octets ++ drop unit.size (take 61 octets)
own_first codec octets unit h =
    h.front ∙ sym (take-append-drop unit.size (take 61 octets))
    ∙ ap (λ l. l ++ drop unit.size (take 61 octets)) (take-take unit.size 61 octets h.holds.most)

-- the frame that stands ahead was sent, as its own octets say it
pub own_sent : (v v' : View) (r : StoreReader) (unit : UnitAhead) (waiting waiting' : List ℕ)
    → codec_of r ≡ v.plan.profile.codec → StandsAhead (codec_of r) (held r) unit
    → ((own more : List ℕ) → unit.octets.now ≡ own ++ more → is_unit v.plan.profile.codec own ≡ true
    → SendsHeld v v' (frame_in v.plan.profile.codec own ∷ []) waiting waiting')
    → SendsHeld v v' (frame_in r.codec (take unit.size (held r)) ∷ []) waiting waiting'
own_sent v v' r unit waiting waiting' same h sends =
    let own = take unit.size (held r) in
    subst (λ c. SendsHeld v v' (frame_in c own ∷ []) waiting waiting') (sym same)
    (sends own (drop unit.size (take 61 (held r))) (own_first (codec_of r) (held r) unit h)
    (subst (λ c. is_unit c own ≡ true) same h.holds.first.whole))

-- what waits behind what was put out
waits_more : (got : Option (List ℕ)) (waiting more : List ℕ)
    → Appends (append_known got waiting) (append_known got (waiting ++ more)) more
waits_more None waiting more = _
waits_more (Some xs) waiting more = sym (append_assoc xs waiting more)

module _ {B : Type 0} (o : sink.Ghosts B) where
  -- the reader of a run that goes on gives blocks of the plan's format
  pub reading_of : (start : Start) (left : Option (List ℕ)) (v : View) (r : StoreReader)
      (s : GatherSink B) → Going o start left v r s → IsReading v.plan r
  reading_of start left v r s u = record {
    front = u.front;
    given = u.given;
    codec = u.is_for.codec ∙ ap (λ (p : SendPlan). p.profile.codec) (sym u.plan);
    channels = u.is_for.channels ∙ ap (λ (p : SendPlan). p.profile.channels) (sym u.plan);
  }

  -- a run goes on behind a frame that was passed and sent
  module _ (start : Start) (left : Option (List ℕ)) (v v' : View) (r r' : StoreReader)
      (s s' : GatherSink B) (size : ℕ) (u : Going o start left v r s) (p : Passes size r r')
      (sends : SendsHeld v v' (frame_in r.codec (take size (held r)) ∷ []) s.gather.now.waiting
      s'.gather.now.waiting) where
    blocks_now : file_blocks start.plan (u.front ++ take size (held r))
        ≡ file_blocks start.plan u.front ++ (frame_in r.codec (take size (held r)) ∷ []) ∷ []
    blocks_now = for_plan start.plan start.limit r u.is_for
        (λ c n. blocks_in c n (u.front ++ take size (held r))
        ≡ blocks_in c n u.front ++ (frame_in r.codec (take size (held r)) ∷ []) ∷ [])
        (p.passed u.front u.given).blocks

    took_now : Consumes start.told left ((u.front ++ take size (held r)) ++ held r')
    took_now =
        let front = u.front in
        let unit = take size (held r) in
        let join : front ++ held r ≡ (front ++ unit) ++ held r' =
        ap (λ l. front ++ l) (sym (take-append-drop size (held r)))
        ∙ sym (append_assoc front unit (drop size (held r)))
        ∙ ap (λ l. (front ++ unit) ++ l) (sym p.left) in
        subst (Consumes start.told left) join u.took

    put_now : s'.output.now ≡ s.output.now → Appends start.got (logical o.got s')
        (begun_log start.plan (file_blocks start.plan (u.front ++ take size (held r))))
    put_now still =
        let b = file_blocks start.plan u.front in
        let waiting = s.gather.now.waiting in
        let block = frame_in r.codec (take size (held r)) ∷ [] in
        let log : begun_log start.plan (b ++ block ∷ []) ≡ begun_log start.plan b ++ sends.more =
        subst (λ (plan : SendPlan). begun_log plan (b ++ block ∷ [])
        ≡ begun_log plan b ++ sends.more) u.plan (sends.log b u.stands) in
        let now : logical o.got s' ≡ append_known (o.got s.output.now) (waiting ++ sends.more) =
        ap (λ x. append_known (o.got x) s'.gather.now.waiting) still
        ∙ ap (append_known (o.got s.output.now)) sends.put in
        let put : Appends start.got (logical o.got s') (begun_log start.plan b ++ sends.more) =
        subst (λ x. Appends start.got x (begun_log start.plan b ++ sends.more)) (sym now)
        (Appends-trans start.got (logical o.got s)
        (append_known (o.got s.output.now) (waiting ++ sends.more)) (begun_log start.plan b)
        sends.more u.out.put (waits_more (o.got s.output.now) waiting sends.more)) in
        subst (Appends start.got (logical o.got s'))
        (sym log ∙ ap (begun_log start.plan) (sym blocks_now)) put

    pub passed_on : v'.plan ≡ v.plan → s'.output.now ≡ s.output.now → Going o start left v' r' s'
    passed_on plan still = record {
      valid = u.valid;
      plan = plan ∙ u.plan;
      is_for = record {
        codec = p.same.codec ∙ u.is_for.codec;
        channels = p.same.channels ∙ u.is_for.channels;
        limit = p.same.limit ∙ u.is_for.limit;
      };
      front = u.front ++ take size (held r);
      given = (p.passed u.front u.given).given_is;
      took = took_now;
      stands = subst (StandsFor v') (sym blocks_now) (sends.stands (file_blocks start.plan u.front) u.stands);
      out = record {
        put = put_now still;
        grown = subst (λ x. Grows start.got (o.got x)) (sym still) u.out.grown;
      };
    }

  -- no frame was sent yet
  pub none_sent : (v : View) (r : StoreReader) (s : GatherSink B) → o.same s.output.now s.output.now
      → SentHeld o v v r r s s 0
  none_sent v r s same = record {
    goes = λ start left u. u;
    blocks = omega arith;
    rises = omega arith;
    same_reader = record { codec = refl; channels = refl; limit = refl };
    still = refl;
    same = record {
      reference = refl;
      same = same;
      beside = refl;
      grows = Grows-refl (o.got s.output.now);
    };
  }

  -- one more was
  pub one_sent : (v v1 v2 : View) (r r1 r2 : StoreReader) (s s1 s2 : GatherSink B) (count size : ℕ)
      → SentHeld o v v1 r r1 s s1 count
      → SendsHeld v1 v2 (frame_in r1.codec (take size (held r1)) ∷ []) s1.gather.now.waiting
      s2.gather.now.waiting
      → v2.plan ≡ v1.plan → Passes size r1 r2 → 1 ≤ size → s2.output ≡ s1.output
      → SentHeld o v v2 r r2 s s2 (count + 1)
  one_sent v v1 v2 r r1 r2 s s1 s2 count size h sends plan p some still =
      let before = h.blocks in
      let one = sends.blocks in
      let rose = h.rises in
      let rises = p.rises in
      let now = ap (λ (x : MutBor B). x.now) still in
      record {
        goes = λ start left u.
            passed_on start left v1 v2 r1 r2 s1 s2 size (h.goes start left u) p sends plan now;
        blocks = omega (arith, before, one);
        rises = omega (arith, rose, rises, some);
        same_reader = record {
          codec = p.same.codec ∙ h.same_reader.codec;
          channels = p.same.channels ∙ h.same_reader.channels;
          limit = p.same.limit ∙ h.same_reader.limit;
        };
        still = now ∙ h.still;
        same = record {
          reference = ap (λ (x : MutBor B). x.ghost_name) still ∙ h.same.reference;
          same = subst (o.same s.output.now) (sym now) h.same.same;
          beside = ap o.beside now ∙ h.same.beside;
          grows = subst (λ x. Grows (o.got s.output.now) (o.got x)) (sym now) h.same.grows;
        };
      }
