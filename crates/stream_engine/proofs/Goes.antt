-- How a run goes on, block by block.
use Rattle.std.proofs.Common.{◌≡◌, ℕ, ◌≤◌, List, [], ◌∷◌, ◌++◌, length, refl, sym, ap, subst, ◌∙◌, arith, append_assoc, Result, Ok, Err, ◌⊎◌, inl, inr}
use Rattle.std.specs.Prelude.{Option, None, Some, IsOk}
use Rattle.std.specs.Io.KnownBytes.{Appends, Consumes, Keeps}
use Rattle.std.proofs.KnownBytes.{Appends-kept, Appends-nil, Appends-trans, Consumes-trans}
use Rattle.amr_frame.specs.declared.cell.Cell.{Cell}
use Rattle.amr_frame.specs.Blocks.{frames_of}
use Rattle.amr_frame.specs.Frames.{Frame}
use Rattle.amr_io.specs.declared.sink.Sink as sink
use Rattle.amr_io.specs.declared.source.Failed.{Failed}
use Rattle.amr_io.specs.declared.source.Source as source
use Rattle.amr_sender.specs.Sender.{StandsFor, View}
use Rattle.amr_store.specs.declared.step.Step.{Step}
use Rattle.amr_store.specs.declared.step.Step.TheVariants.{Ready, End, Refused, OverLimit}
use Rattle.amr_store.specs.Reading.{HasGiven, HoldsNothing, IsLeft, WentOn, held}
use Rattle.amr_store.specs.Telling.{TellsNextIn}
use Rattle.log_engine.proofs.GrowsLemmas.{Grows-refl, Grows-through}
use Rattle.log_engine.proofs.OutLemmas.{none_waits, out_within, prefix_refl, prefix_through}
use Rattle.log_engine.specs.Puts.{Puts, PutsPart}
use Rattle.log_engine.specs.Tray.{Grows}
use Rattle.log_engine.specs.Turns.{logical}
use Rattle.log_engine.specs.declared.gather_sink.GatherSink.{GatherSink}
use Rattle.run_report.specs.declared.end.RunEnd.{RunEnd}
use Rattle.run_report.specs.declared.end.RunEnd.TheVariants as end
use Rattle.spec_run.specs.Meanings.{IsPrefix}
use Rattle.spec_sending.specs.Plans.{IsPlan}
use Rattle.spec_sending.specs.Sending.{begun}
use Rattle.spec_sending.specs.declared.plan.SendPlan.{SendPlan}
use Rattle.spec_store.specs.StorageReading.{blocks_in}
use Rattle.spec_stream.specs.Streaming.{begun_log, file_blocks, log_of_packets, output_of}
use Rattle.stream_laws.proofs.Growing.{early_is_put}
use Rattle.stream_engine.specs.Progress.{After, Broke, Halted, Out, Start, State, Turned, Underway, start_of, state}
use Rattle.stream_engine.specs.Reading.{MayRead, Opened, Stopped, stop_by}
use Rattle.stream_engine.specs.Sends.{SendsBlock, SendsBlockPart}
use Rattle.stream_engine.proofs.Stops.{OnStop, for_plan, for_still, stops}
use Rattle.stream_engine.proofs.Told.{given_within, left_of}

-- nothing is begun of no blocks
none_begun : (v : View) → StandsFor v [] → v.packets ≡ 0 → begun_log v.plan [] ≡ []
none_begun v stands none = ap log_of_packets (empty (begun v.plan []) (sym stands.packets ∙ none))
  where
    empty : {X : Type 0} (l : List X) → length l ≡ 0 → l ≡ []
    empty [] e = refl
    empty (x ∷ l) e = absurd (omega (arith, e))

module _ {A B : Type 0} (i : source.Ghosts A) (o : sink.Ghosts B) where
  -- a part of what the octets given put out is written
  broke_at : (start : Start) → IsPlan start.plan → (told' : Option (List ℕ)) (to : GatherSink B)
      (front behind all : List ℕ) → length front ≤ start.limit → Consumes start.told told' (front ++ behind)
      → Appends start.got (logical o.got to) all
      → IsPrefix all (begun_log start.plan (file_blocks start.plan front))
      → Grows start.got (o.got to.output.now) → Broke start told' (o.got to.output.now)
  broke_at start valid told' to front behind all fits took put within grown =
      let whole = begun_log start.plan (file_blocks start.plan front) in
      let out = out_within start.got start.got (o.got to.output.now) to.gather.now.waiting [] all whole []
      (Appends-nil start.got) (prefix_refl []) grown put within (whole, refl) in
      record {
        read = front ++ behind;
        out = out.out;
        took = took;
        put = out.put;
        part = λ input e.
            let l = left_of start.told told' input (front ++ behind) e took in
            let same : input ≡ front ++ (behind ++ l.more) = l.joins ∙ append_assoc front behind l.more in
            let f = early_is_put start.plan start.limit front (behind ++ l.more) valid fits in
            prefix_through out.out whole (output_of start.plan start.limit input) out.within
            (f.0, ap (output_of start.plan start.limit) same ∙ f.1);
      }

  -- what was put out stays so where what waits is written, whole or in part
  out_moved : (start : Start) (b : List (List Frame)) (s t : GatherSink B) → Out o start b s
      → Keeps (logical o.got s) (logical o.got t) → Grows (o.got s.output.now) (o.got t.output.now)
      → Out o start b t
  out_moved start b s t out kept grown = record {
    put = Appends-kept start.got (logical o.got s) (logical o.got t) (begun_log start.plan b) out.put kept;
    grown = Grows-through start.got (o.got s.output.now) (o.got t.output.now) out.grown grown;
  }

  pub moved : (start : Start) (now : State A B) (to : GatherSink B) → Underway i o start now
      → Keeps (logical o.got now.sink) (logical o.got to) → Grows (o.got now.sink.output.now) (o.got to.output.now)
      → Underway i o start (state now.sender now.reader now.input to)
  moved start now to u kept grown = record {
    valid = u.valid;
    plan = u.plan;
    is_for = u.is_for;
    front = u.front;
    given = u.given;
    took = u.took;
    stands = u.stands;
    out = out_moved start (file_blocks start.plan u.front) now.sink to u.out kept grown;
  }

  -- a write of what waits failed
  pub way_broke : (start : Start) (now : State A B) (to : GatherSink B) → Underway i o start now
      → Keeps (logical o.got now.sink) (logical o.got to) → Grows (o.got now.sink.output.now) (o.got to.output.now)
      → Broke start (i.left now.input) (o.got to.output.now)
  way_broke start now to u kept grown =
      let out = out_moved start (file_blocks start.plan u.front) now.sink to u.out kept grown in
      let fits = given_within u.front now.reader u.given in
      let limit = u.is_for.limit in
      broke_at start u.valid (i.left now.input) to u.front (held now.reader)
      (begun_log start.plan (file_blocks start.plan u.front)) (omega (arith, fits, limit)) u.took out.put
      (prefix_refl (begun_log start.plan (file_blocks start.plan u.front))) out.grown

  -- where a run begins
  pub out_at_first : (first : State A B) → StandsFor first.sender [] → first.sender.packets ≡ 0
      → first.sink.gather.now.waiting ≡ [] → Out o (start_of i o first) [] first.sink
  out_at_first first stands none empty =
      let got = o.got first.sink.output.now in
      record {
        put = subst (λ l. Appends got (logical o.got first.sink) l) (sym (none_begun first.sender stands none))
            (subst (λ g. Appends got g []) (sym (none_waits got first.sink.gather.now.waiting empty)) (Appends-nil got));
        grown = Grows-refl got;
      }

  pub opened : (start : Start) (now : State A B) → IsPlan start.plan → now.sender.plan ≡ start.plan
      → Opened start.plan start.limit start.told (i.left now.input) now.reader → StandsFor now.sender []
      → Out o start [] now.sink → Underway i o start now
  opened start now valid plan head stands out = record {
    valid = valid;
    plan = plan;
    is_for = head.is_for;
    front = head.header;
    given = head.given;
    took = head.took;
    stands = subst (StandsFor now.sender) (sym head.none) stands;
    out = subst (λ b. Out o start b now.sink) (sym head.none) out;
  }

  -- where a block came
  module _ (start : Start) (old new : State A B) (cells : List Cell) (u : Underway i o start old)
      (went : WentOn u.front (i.left old.input) (i.left new.input) old.reader (Ok Ready) cells new.reader)
      (is : IsLeft old.reader (Ok Ready) new.reader)
      (grows : Grows (o.got old.sink.output.now) (o.got new.sink.output.now)) where
    blocks_now : file_blocks start.plan (u.front ++ went.goes.1.block)
        ≡ file_blocks start.plan u.front ++ frames_of cells ∷ []
    blocks_now = for_plan start.plan start.limit old.reader u.is_for
        (λ c n. blocks_in c n (u.front ++ went.goes.1.block) ≡ blocks_in c n u.front ++ frames_of cells ∷ [])
        went.goes.1.blocks

    took_now : Consumes start.told (i.left new.input) ((u.front ++ went.goes.1.block) ++ held new.reader)
    took_now =
        let block = went.goes.1.block in
        let join : (u.front ++ held old.reader) ++ went.more ≡ (u.front ++ block) ++ held new.reader =
        append_assoc u.front (held old.reader) went.more ∙ ap (λ l. u.front ++ l) went.goes.1.join
        ∙ sym (append_assoc u.front block (held new.reader)) in
        subst (Consumes start.told (i.left new.input)) join
        (Consumes-trans start.told (i.left old.input) (i.left new.input) (u.front ++ held old.reader) went.more
        u.took went.goes.0)

    pub went_under : SendsBlock old.sender new.sender (frames_of cells) (logical o.got old.sink) (logical o.got new.sink)
        → new.sender.plan ≡ old.sender.plan → Underway i o start new
    went_under sends plan =
        let b = file_blocks start.plan u.front in
        let puts = subst (λ (s : SendPlan). Puts (logical o.got old.sink) (logical o.got new.sink) (begun_log s b)
        (begun_log s (b ++ frames_of cells ∷ []))) u.plan (sends.out b u.stands) in
        let put = Appends-trans start.got (logical o.got old.sink) (logical o.got new.sink) (begun_log start.plan b)
        puts.more u.out.put puts.put in
        record {
          valid = u.valid;
          plan = plan ∙ u.plan;
          is_for = for_still start.plan start.limit old.reader new.reader (Ok Ready) u.is_for is;
          front = u.front ++ went.goes.1.block;
          given = went.goes.1.given_is;
          took = took_now;
          stands = subst (StandsFor new.sender) (sym blocks_now) (sends.stands b u.stands);
          out = record {
            put = subst (Appends start.got (logical o.got new.sink))
                (sym puts.grown ∙ ap (begun_log start.plan) (sym blocks_now)) put;
            grown = Grows-through start.got (o.got old.sink.output.now) (o.got new.sink.output.now) u.out.grown grows;
          };
        }

    pub went_broke : SendsBlockPart old.sender (frames_of cells) (logical o.got old.sink) (logical o.got new.sink)
        → Broke start (i.left new.input) (o.got new.sink.output.now)
    went_broke sends =
        let b = file_blocks start.plan u.front in
        let front = u.front ++ went.goes.1.block in
        let puts = subst (λ (s : SendPlan). PutsPart (logical o.got old.sink) (logical o.got new.sink) (begun_log s b)
        (begun_log s (b ++ frames_of cells ∷ []))) u.plan (sends.out b u.stands) in
        let put = Appends-trans start.got (logical o.got old.sink) (logical o.got new.sink) (begun_log start.plan b)
        puts.part u.out.put puts.put in
        let fits = given_within front new.reader went.goes.1.given_is in
        let limit = (for_still start.plan start.limit old.reader new.reader (Ok Ready) u.is_for is).limit in
        broke_at start u.valid (i.left new.input) new.sink front (held new.reader) (begun_log start.plan b ++ puts.part)
        (omega (arith, fits, limit)) took_now put
        (subst (IsPrefix (begun_log start.plan b ++ puts.part)) (ap (begun_log start.plan) (sym blocks_now)) puts.within)
        (Grows-through start.got (o.got old.sink.output.now) (o.got new.sink.output.now) u.out.grown grows)

  -- where none came
  after_halt : (start : Start) (now : State A B) (r : Result Step Failed)
      → OnStop (Halted i o start now) (stop_by r) → OnStop (After i o start now) (stop_by r)
  after_halt start now (Ok Ready) h = tt
  after_halt start now (Ok End) h = h
  after_halt start now (Ok (Refused w)) h = h
  after_halt start now (Ok OverLimit) h = h
  after_halt start now (Err x) h = h

  -- a failed read was made where nothing held was an answer
  failed_by : (X N : Type 0) (r : Result Step Failed) → (X × IsOk r) ⊎ N → stop_by r ≡ Some end.ReadFault → N
  failed_by X N (Ok Ready) h e = absurd cc
  failed_by X N (Ok End) h e = absurd cc
  failed_by X N (Ok (Refused w)) h e = absurd cc
  failed_by X N (Ok OverLimit) h e = absurd cc
  failed_by X N (Err x) (inl h) e = let ok = h.1 in absurd cc
  failed_by X N (Err x) (inr n) e = n

  on_stop : (P Q : RunEnd → Type 0) (s : Option RunEnd) → OnStop P s
      → ((how : RunEnd) → s ≡ Some how → P how → Q how) → OnStop Q s
  on_stop P Q None p f = tt
  on_stop P Q (Some how) p f = f how refl p

  -- what the reader told of its call
  pub record Asked (old new : State A B) (cells : List Cell) (r : Result Step Failed) : Type 0 where
    pub exact : (front : List ℕ) → HasGiven front old.reader → TellsNextIn (i.left old.input) front old.reader r cells
    pub went : (file : List ℕ) → HasGiven file old.reader
        → WentOn file (i.left old.input) (i.left new.input) old.reader r cells new.reader
    pub is : IsLeft old.reader r new.reader
    pub no_read : (file : List ℕ) → HasGiven file old.reader
        → ((new.input ≡ old.input) × IsOk r) ⊎ HoldsNothing file old.reader

  halts : (start : Start) (old new : State A B) (cells : List Cell) (r : Result Step Failed)
      → Asked old new cells r → new.sender ≡ old.sender → new.sink ≡ old.sink
      → Underway i o start old → MayRead old.reader old.sink → OnStop (Halted i o start new) (stop_by r)
  halts start old new cells r a idle still u may =
      let b = file_blocks start.plan u.front in
      let stopped = stops start.plan start.limit old.reader u.is_for u.front start.told (i.left old.input) u.took
      (i.left new.input) new.reader cells r u.given (a.exact u.front u.given) (a.went u.front u.given) a.is in
      on_stop (Stopped start.plan start.limit start.told (i.left new.input) b) (Halted i o start new) (stop_by r) stopped
      (λ how at stop. record {
        valid = u.valid;
        plan = ap (λ (v : View). v.plan) idle ∙ u.plan;
        blocks = b;
        stopped = stop;
        stands = subst (λ (v : View). StandsFor v b) (sym idle) u.stands;
        out = subst (Out o start b) (sym still) u.out;
        empty = λ e. ap (λ (s : GatherSink B). s.gather.now.waiting) still
            ∙ may u.front u.given (failed_by (new.input ≡ old.input) (HoldsNothing u.front old.reader) r
            (a.no_read u.front u.given) (at ∙ ap Some e));
      })

  pub turn_halts : (start : Start) (old new : State A B) (cells : List Cell) (r : Result Step Failed) (how : RunEnd)
      → stop_by r ≡ Some how → Asked old new cells r → new.sender ≡ old.sender → new.sink ≡ old.sink
      → Underway i o start old → MayRead old.reader old.sink → Turned i o start new (Some how)
  turn_halts start old new cells r how at asked idle still u may =
      subst (OnStop (After i o start new)) at (after_halt start new r (halts start old new cells r asked idle still u may))
