-- How a run goes on, turn by turn.
use Rattle.std.proofs.Common.{◌≡◌, ℕ, ◌≤◌, List, [], ◌∷◌, ◌++◌, length, refl, sym, ap, subst, ◌∙◌, arith, inl, inr, append-nil, append_assoc, length-append}
use Rattle.std.specs.Prelude.{Option, ◌⊎◌}
use Rattle.std.specs.Io.KnownBytes.{Appends, Consumes, Keeps, append_known}
use Rattle.std.proofs.KnownBytes.{Appends-kept, Appends-nil, Appends-trans, Consumes-nil}
use Rattle.amr_io.specs.declared.sink.Sink as sink
use Rattle.amr_io.specs.declared.source.Source as source
use Rattle.log_engine.proofs.Growing.{EarlyGrows}
use Rattle.log_engine.proofs.OutLemmas.{all_written, none_waits, out_within, prefix_refl, prefix_through}
use Rattle.log_engine.proofs.ReadLemmas.{all_read, moved_length, near_more, one_log, one_record, took_more, why_on}
use Rattle.log_engine.specs.Progress.{Halted, Underway, Wrote}
use Rattle.log_engine.specs.Puts.{Puts, PutsPart}
use Rattle.log_engine.specs.Run.{Broke, Took}
use Rattle.log_engine.specs.Tray.{Grows}
use Rattle.log_engine.specs.Turns.{Brought, Handled, HandledPart, Missed, State, logical, sent, state}
use Rattle.log_engine.specs.declared.gather_sink.GatherSink.{GatherSink}
use Rattle.log_engine.specs.declared.handler.RecordHandler as handler
use Rattle.rtp_packet.proofs.Records.{partial_not_whole}
use Rattle.rtp_packet.specs.Reading.{limit_of, rest, taken_of}
use Rattle.rtp_packet.specs.Record.{IsWhole}
use Rattle.rtp_packet.specs.declared.log_reader.LogReader.{LogReader}
use Rattle.run_report.specs.declared.end.RunEnd.{RunEnd}
use Rattle.spec_packet.specs.Log.{IsPartial, log_of}
use Rattle.spec_run.specs.Flows.{read_from}
use Rattle.spec_run.specs.LogRuns.{MOST_HELD, RecordsJob}

-- nothing waits, and no record was handled since the last read
pub record Idle (waiting : List ℕ) (last : List (List ℕ)) : Type 0 where
  pub none : last ≡ []
  pub empty : waiting ≡ []

-- where a run stands before a read: a record is held, or nothing waits
pub record Ready {H A B : Type 0} (h : handler.Ghosts H) (s : source.Ghosts A) (k : sink.Ghosts B)
    (first now : State H A B) : Type 0 where
  pub under : Underway h s k first now
  pub room : IsWhole (rest now.reader) ⊎ Idle now.sink.gather.now.waiting under.last

-- the record that came was held, or none was handled since the last read
near_turn : (old : LogReader) (more waiting : List ℕ) (last : List (List ℕ))
    → IsWhole (rest old) ⊎ Idle waiting last → (IsWhole (rest old) → more ≡ [])
    → (more ≡ []) ⊎ (last ≡ [])
near_turn old more waiting last (inl whole) held = inl (held whole)
near_turn old more waiting last (inr idle) held = inr idle.none

-- no record was held where none is whole after the read
none_held : (old : LogReader) (more rest' waiting : List ℕ) (last : List (List ℕ))
    → IsWhole (rest old) ⊎ Idle waiting last → (IsWhole (rest old) → more ≡ [])
    → rest old ++ more ≡ rest' → IsPartial rest' → waiting ≡ []
none_held old more rest' waiting last (inl whole) held same part =
    let is : rest old ≡ rest' =
    sym (append-nil (rest old)) ∙ ap (λ m. rest old ++ m) (sym (held whole)) ∙ same in
    let there : IsWhole rest' = subst IsWhole is whole in
    absurd (partial_not_whole rest' part there)
none_held old more rest' waiting last (inr idle) held same part = idle.empty

-- all that is written stays so
wrote_on : {B : Type 0} (k : sink.Ghosts B) (s0 s1 s2 : GatherSink B) (octets : List ℕ)
    → Wrote (sent k s0 s1) octets → Grows (k.got s1.output.now) (k.got s2.output.now)
    → Wrote (sent k s0 s2) octets
wrote_on k s0 s1 s2 octets w p = record {
  out = w.out ++ p.0;
  put = Appends-trans (k.got s0.output.now) (k.got s1.output.now) (k.got s2.output.now) w.out p.0
      w.put p.1;
  begins = prefix_through octets w.out (w.out ++ p.0) w.begins (p.0, refl);
}

-- a record in the place of one that stands elsewhere
joined : (done last : List (List ℕ)) (p : List ℕ)
    → (done ++ last) ++ p ∷ [] ≡ done ++ (last ++ p ∷ [])
joined done last p = append_assoc done last (p ∷ [])

-- what a record put out, by the job that was begun with
told_for : (P : List ℕ → List ℕ → Type 0) (job job' : RecordsJob) (done last : List (List ℕ))
    (p : List ℕ) → job' ≡ job
    → P (job'.early (done ++ last)) (job'.early ((done ++ last) ++ p ∷ []))
    → P (job.early (done ++ last)) (job.early (done ++ (last ++ p ∷ [])))
told_for P job job' done last p same step =
    subst (λ l. P (job.early (done ++ last)) (job.early l)) (joined done last p)
    (subst (λ (j : RecordsJob). P (j.early (done ++ last)) (j.early ((done ++ last) ++ p ∷ [])))
    same step)

module _ {H A B : Type 0} (h : handler.Ghosts H) (s : source.Ghosts A) (k : sink.Ghosts B) where
  -- a write of what waits, whole or in part
  moved_on : (first now : State H A B) (to : GatherSink B) → Underway h s k first now
      → Keeps (logical k.got now.sink) (logical k.got to)
      → Grows (k.got now.sink.output.now) (k.got to.output.now)
      → Underway h s k first (state now.handler now.reader now.input to)
  moved_on first now to u kept grown =
      let got : Option (List ℕ) = k.got first.sink.output.now in
      let p = u.progress in
      let all : List ℕ = (h.job first.handler).early (u.done ++ u.last) in
      record {
        done = u.done;
        last = u.last;
        stood = u.stood;
        progress = record {
          took = p.took;
          near = p.near;
          put = Appends-kept got (logical k.got now.sink) (logical k.got to) all p.put kept;
          written = wrote_on k first.sink now.sink to _ p.written grown;
        };
        size = u.size;
      }

  -- once nothing waits, all is written that was handled
  flushed : (first now : State H A B) → (u : Underway h s k first now)
      → now.sink.gather.now.waiting ≡ [] → Ready h s k first now
  flushed first now u none =
      let job : RecordsJob = h.job first.handler in
      let limit : ℕ = limit_of first.reader in
      let got : Option (List ℕ) = k.got first.sink.output.now in
      let got' : Option (List ℕ) = k.got now.sink.output.now in
      let waiting : List ℕ = now.sink.gather.now.waiting in
      let left : List ℕ = rest now.reader in
      let p = u.progress in
      let hs : List (List ℕ) = u.done ++ u.last in
      let same : hs ≡ hs ++ [] = sym (append-nil hs) in
      let under : Underway h s k first now = record {
        done = hs;
        last = [];
        stood = subst (h.stands now.handler) same u.stood;
        progress = record {
          took = subst (λ l. Took limit (read_from s first.input now.input) l left []) same p.took;
          near = omega (arith, p.near, length-append (log_of u.last) left);
          put = subst (λ l. Appends got (append_known got' waiting) (job.early l)) same p.put;
          written = record {
            out = job.early hs;
            put = all_written got got' waiting (job.early hs) none p.put;
            begins = prefix_refl (job.early hs);
          };
        };
        size = subst (λ l. length (log_of l ++ left) ≡ taken_of now.reader) same u.size;
      } in
      record { under = under; room = inr record { none = refl; empty = none } }

  -- where a run stands before a read
  pub ready_of : (first now : State H A B) (to : GatherSink B) → Underway h s k first now
      → Keeps (logical k.got now.sink) (logical k.got to)
      → Grows (k.got now.sink.output.now) (k.got to.output.now)
      → IsWhole (rest now.reader) ⊎ (to.gather.now.waiting ≡ [])
      → Ready h s k first (state now.handler now.reader now.input to)
  ready_of first now to u kept grown (inl whole) =
      record { under = moved_on first now to u kept grown; room = inl whole }
  ready_of first now to u kept grown (inr none) =
      flushed first (state now.handler now.reader now.input to)
      (moved_on first now to u kept grown) none

  -- how many octets the records and the rest have, once one came
  size_after : (first now next : State H A B) (packet more : List ℕ)
      → (u : Underway h s k first now)
      → Brought (read_from s now.input next.input) now.reader next.reader packet more
      → length (log_of ((u.done ++ u.last) ++ packet ∷ []) ++ rest next.reader)
      ≡ taken_of next.reader
  size_after first now next packet more u b =
      let joins = one_log packet (rest now.reader) (rest next.reader) more b.joins in
      moved_length (u.done ++ u.last) (packet ∷ []) (rest now.reader) (rest next.reader) more
      (taken_of now.reader) (taken_of next.reader) joins u.size b.went.taken

  -- what was read, once a record came
  took_after : (first now next : State H A B) (packet more : List ℕ)
      → (u : Underway h s k first now)
      → limit_of now.reader ≡ limit_of first.reader
      → Brought (read_from s now.input next.input) now.reader next.reader packet more
      → Took (limit_of first.reader) (read_from s first.input next.input)
      (u.done ++ (u.last ++ packet ∷ [])) (rest next.reader) []
  took_after first now next packet more u same_limit b =
      let hs : List (List ℕ) = u.done ++ u.last in
      let limit : ℕ = limit_of first.reader in
      let left : List ℕ = rest next.reader in
      let joins = one_log packet (rest now.reader) left more b.joins in
      let size = size_after first now next packet more u b in
      let within : length (log_of (hs ++ packet ∷ []) ++ left) ≤ limit =
      omega (arith, size, b.went.within, b.went.limit, same_limit) in
      let took = took_more s first.input now.input next.input limit hs (packet ∷ [])
      (rest now.reader) left more []
      u.progress.took b.went.took joins (one_record packet b.short) within in
      subst (λ l. Took limit (read_from s first.input next.input) l left [])
      (joined u.done u.last packet) took

  -- what was handled since the last read, and what is left, were held then
  near_after : (first now next : State H A B) (packet more : List ℕ) → (r : Ready h s k first now)
      → Brought (read_from s now.input next.input) now.reader next.reader packet more
      → length (log_of (r.under.last ++ packet ∷ []) ++ rest next.reader) ≤ MOST_HELD
  near_after first now next packet more r b =
      let came = near_turn now.reader more now.sink.gather.now.waiting r.under.last r.room
      b.went.held in
      near_more r.under.last packet (rest now.reader) (rest next.reader) more b.joins
      r.under.progress.near b.near came

  -- where a run stands after a record was handled
  pub handled_turn : (first now next : State H A B) → Ready h s k first now
      → h.job now.handler ≡ h.job first.handler → limit_of now.reader ≡ limit_of first.reader
      → Grows (k.got now.sink.output.now) (k.got next.sink.output.now)
      → Handled h s k now next → Underway h s k first next
  handled_turn first now next r same_job same_limit grown t =
      let u = r.under in
      let job : RecordsJob = h.job first.handler in
      let got : Option (List ℕ) = k.got first.sink.output.now in
      let out : Option (List ℕ) = logical k.got now.sink in
      let out' : Option (List ℕ) = logical k.got next.sink in
      let step = t.each (u.done ++ u.last) u.stood in
      let puts = told_for (Puts out out') job (h.job now.handler) u.done u.last t.came.packet
      same_job step.1 in
      let more = Appends-trans got out out' (job.early (u.done ++ u.last)) puts.more u.progress.put
      puts.put in
      let size = size_after first now next t.came.packet t.came.more u t.came.brought in
      let is = joined u.done u.last t.came.packet in
      record {
        done = u.done;
        last = u.last ++ t.came.packet ∷ [];
        stood = subst (h.stands next.handler) is step.0;
        progress = record {
          took = took_after first now next t.came.packet t.came.more u same_limit t.came.brought;
          near = near_after first now next t.came.packet t.came.more r t.came.brought;
          put = subst (Appends got out') (sym puts.grown) more;
          written = wrote_on k first.sink now.sink next.sink (job.early u.done)
              u.progress.written grown;
        };
        size = subst (λ l. length (log_of l ++ rest next.reader) ≡ taken_of next.reader) is size;
      }

  -- where a run stands after a write failed while a record was handled
  pub broken_turn : (first now next : State H A B) → EarlyGrows (h.job first.handler)
      → Ready h s k first now → h.job now.handler ≡ h.job first.handler
      → limit_of now.reader ≡ limit_of first.reader
      → Grows (k.got now.sink.output.now) (k.got next.sink.output.now) → HandledPart h s k now next
      → Broke (h.job first.handler) (limit_of first.reader) (read_from s first.input next.input)
      (sent k first.sink next.sink)
  broken_turn first now next grow r same_job same_limit grown t =
      let u = r.under in
      let job : RecordsJob = h.job first.handler in
      let got : Option (List ℕ) = k.got first.sink.output.now in
      let out : Option (List ℕ) = logical k.got now.sink in
      let out' : Option (List ℕ) = logical k.got next.sink in
      let hs : List (List ℕ) = u.done ++ u.last in
      let ps : List (List ℕ) = t.came.packet ∷ [] in
      let puts = told_for (PutsPart out out') job (h.job now.handler) u.done u.last t.came.packet
      same_job (t.each hs u.stood) in
      let put : Appends got out' (job.early hs ++ puts.part) =
      Appends-trans got out out' (job.early hs) puts.part u.progress.put puts.put in
      let w = u.progress.written in
      let all = out_within got (k.got now.sink.output.now) (k.got next.sink.output.now)
      next.sink.gather.now.waiting
      (job.early u.done) (job.early hs ++ puts.part) (job.early (u.done ++ (u.last ++ ps)))
      w.out w.put w.begins grown put puts.within (grow u.done (u.last ++ ps)) in
      record {
        done = u.done;
        last = u.last ++ ps;
        rest = rest next.reader;
        extra = [];
        out = all.out;
        took = took_after first now next t.came.packet t.came.more u same_limit t.came.brought;
        near = omega (arith, near_after first now next t.came.packet t.came.more r t.came.brought);
        put = all.put;
        most = λ _. all.begins;
        part = inl all.within;
      }

  -- where a run stands that stopped
  pub halted_turn : (first now next : State H A B) (how : RunEnd) → Ready h s k first now
      → limit_of now.reader ≡ limit_of first.reader → Missed s now next how
      → Halted h s k first next how
  halted_turn first now next how r same_limit m =
      let u = r.under in
      let job : RecordsJob = h.job first.handler in
      let limit : ℕ = limit_of first.reader in
      let got : Option (List ℕ) = k.got first.sink.output.now in
      let waiting : List ℕ = now.sink.gather.now.waiting in
      let left : List ℕ = rest next.reader in
      let hs : List (List ℕ) = u.done ++ u.last in
      let same : hs ++ [] ≡ hs = append-nil hs in
      let none : waiting ≡ [] =
      none_held now.reader m.more left waiting u.last r.room m.went.held m.joins m.partial in
      let grown = moved_length hs [] (rest now.reader) left m.more (taken_of now.reader)
      (taken_of next.reader) m.joins u.size m.went.taken in
      let size : length (log_of hs ++ left) ≡ taken_of next.reader =
      subst (λ l. length (log_of l ++ left) ≡ taken_of next.reader) same grown in
      let limits : limit_of next.reader ≡ limit = m.went.limit ∙ same_limit in
      let within : length (log_of (hs ++ []) ++ left) ≤ limit =
      omega (arith, grown, m.went.within, limits) in
      let took = took_more s first.input now.input next.input limit hs [] (rest now.reader) left
      m.more m.extra
      u.progress.took m.went.took m.joins tt within in
      let on = all_read s first.input now.input limit hs (rest now.reader) left m.more
      u.progress.took m.joins in
      let put : Appends got (k.got now.sink.output.now) (job.early hs) =
      all_written got (k.got now.sink.output.now) waiting (job.early hs) none u.progress.put in
      record {
        packets = hs;
        extra = m.extra;
        stopped = record {
          took = subst (λ l. Took limit (read_from s first.input next.input) l left m.extra)
              same took;
          partial = m.partial;
          near = m.near;
          why = why_on how (s.left first.input) (s.left now.input) (log_of hs ++ left) m.more
              left m.extra
              (taken_of next.reader) limit (limit_of next.reader) on size limits m.why;
        };
        stood = subst (λ (x : H). h.stands x hs) (sym m.idle) u.stood;
        put = subst (λ (x : GatherSink B). Appends got (k.got x.output.now) (job.early hs))
            (sym m.still) put;
        empty = ap (λ (x : GatherSink B). x.gather.now.waiting) m.still ∙ none;
      }

  -- a run that broke before the first record
  pub begin_broken : (first : State H A B) (to : GatherSink B)
      → first.sink.gather.now.waiting ≡ []
      → PutsPart (logical k.got first.sink) (logical k.got to) [] ((h.job first.handler).early [])
      → Grows (k.got first.sink.output.now) (k.got to.output.now)
      → Broke (h.job first.handler) (limit_of first.reader) (read_from s first.input first.input)
      (sent k first.sink to)
  begin_broken first to none part grown =
      let job : RecordsJob = h.job first.handler in
      let got : Option (List ℕ) = k.got first.sink.output.now in
      let before : logical k.got first.sink ≡ got =
      none_waits got first.sink.gather.now.waiting none in
      let put : Appends got (logical k.got to) part.part =
      subst (λ o. Appends o (logical k.got to) part.part) before part.put in
      let out = out_within got got (k.got to.output.now) to.gather.now.waiting [] part.part
      (job.early []) []
      (Appends-nil got) (prefix_refl []) grown put part.within (job.early [], refl) in
      record {
        done = [];
        last = [];
        rest = [];
        extra = [];
        out = out.out;
        took = record {
          consumed = Consumes-nil (s.left first.input);
          records = tt;
          within = omega arith;
        };
        near = omega arith;
        put = out.put;
        most = λ some. absurd (some refl);
        part = inl out.within;
      }

  -- a run that broke between two records
  pub way_broken : (first now : State H A B) (to : GatherSink B) → EarlyGrows (h.job first.handler)
      → Underway h s k first now → Keeps (logical k.got now.sink) (logical k.got to)
      → Grows (k.got now.sink.output.now) (k.got to.output.now)
      → Broke (h.job first.handler) (limit_of first.reader) (read_from s first.input now.input)
      (sent k first.sink to)
  way_broken first now to grow u kept grown =
      let job : RecordsJob = h.job first.handler in
      let got : Option (List ℕ) = k.got first.sink.output.now in
      let got' : Option (List ℕ) = k.got to.output.now in
      let w = wrote_on k first.sink now.sink to (job.early u.done) u.progress.written grown in
      let all : List ℕ = job.early (u.done ++ u.last) in
      let put = Appends-kept got (logical k.got now.sink) (logical k.got to) all
      u.progress.put kept in
      let out = out_within got got' got' to.gather.now.waiting (job.early u.done) all all
      w.out w.put w.begins ([], Appends-nil got') put (prefix_refl all) (grow u.done u.last) in
      record {
        done = u.done;
        last = u.last;
        rest = rest now.reader;
        extra = [];
        out = out.out;
        took = u.progress.took;
        near = omega (arith, u.progress.near);
        put = out.put;
        most = λ _. out.begins;
        part = inl out.within;
      }

  -- where a run stands before the first record
  pub begun : (first : State H A B) (by : H) (to : GatherSink B)
      → first.sink.gather.now.waiting ≡ [] → to.gather.now.waiting ≡ []
      → rest first.reader ≡ [] → taken_of first.reader ≡ 0 → h.stands by []
      → Appends (logical k.got first.sink) (logical k.got to) ((h.job first.handler).early [])
      → Underway h s k first (state by first.reader first.input to)
  begun first by to none none' empty zero stood put =
      let job : RecordsJob = h.job first.handler in
      let got : Option (List ℕ) = k.got first.sink.output.now in
      let left : Option (List ℕ) = s.left first.input in
      let before : logical k.got first.sink ≡ got =
      none_waits got first.sink.gather.now.waiting none in
      let all : Appends got (logical k.got to) (job.early []) =
      subst (λ o. Appends o (logical k.got to) (job.early [])) before put in
      let size : length (rest first.reader) ≡ 0 = ap length empty in
      record {
        done = [];
        last = [];
        stood = stood;
        progress = record {
          took = record {
            consumed = subst (λ l. Consumes left left (l ++ [])) (sym empty) (Consumes-nil left);
            records = tt;
            within = omega arith;
          };
          near = omega arith;
          put = all;
          written = record {
            out = job.early [];
            put = all_written got (k.got to.output.now) to.gather.now.waiting (job.early [])
                none' all;
            begins = prefix_refl (job.early []);
          };
        };
        size = omega (arith, size, zero);
      }
