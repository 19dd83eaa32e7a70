-- Packets that are delivered and recorded.
use Rattle.std.proofs.Common.{◌≡◌, ℕ, ◌+◌, ◌*◌, ◌^◌, ◌≤◌, ◌<◌, List, [], ◌∷◌, ◌++◌, length, refl, sym, ◌∙◌, subst, arith, append_assoc, append-nil, Option, Some, None}
use native.Mathlib.Nat.{mod-eq_of_lt}
use Rattle.std.proofs.lemmas.List.{length-append}
use Rattle.std.specs.Prelude.{IsSome}
use Rattle.amr_frame.specs.Frames.{Frame}
use Rattle.amr_playout.specs.Gains.{Gains}
use Rattle.record_hearing.specs.Going.{IsGoing}
use Rattle.record_hearing.specs.Jobs.{recording_of}
use Rattle.record_hearing.specs.Listening.{Closes, HasHeard, Listens, gone_among, released_among}
use Rattle.record_hearing.specs.Tallies.{counted_in_all}
use Rattle.record_hearing.specs.declared.job.RecordJob.{RecordJob}
use Rattle.record_hearing.specs.declared.listener.Listener.{Listener}
use Rattle.run_report.specs.declared.counts.Counts.{Counts}
use Rattle.spec_record.specs.Recording.{file_of}
use Rattle.trial_engine.proofs.Summed.{file_of_more}
use Rattle.trial_engine.specs.Fates.{HoldsOr, Passes}
use Rattle.trial_engine.specs.Sums.{AddsBlock}
use Rattle.trial_engine.specs.Tapes.{Delivers, HasRecorded, IsRecordOf, SumsOf}
use Rattle.trial_engine.specs.declared.file_sum.FileSum.{FileSum}
use Rattle.trial_engine.specs.declared.tape.Tape.{Tape}

-- a sum got the blocks that one list has more than another
abbrev pub Got : FileSum → FileSum → List (List Frame) → List (List Frame) → Type 0
Got f g less more = Gains (λ (f : FileSum) block (g : FileSum). AddsBlock f g block) f g less more

-- blocks that have gone out are added up with those before them
pub sums_gained : (job : RecordJob) (f g : FileSum) (less more : List (List Frame)) → SumsOf job f less
    → Got f g less more → SumsOf job g more
sums_gained job f g less more s gains =
    subst (SumsOf job g) (sym gains.more_by)
    (file_of_more job.plan.profile.codec job.plan.profile.channels f g less gains.blocks s gains.got)

-- a packet more was heard, and its blocks added up
pub heard_more : (l l' : Listener) (f g : FileSum) (records : List (List ℕ)) (octets : List ℕ) → l'.job ≡ l.job
    → Listens (Got f g) l l' octets → HasHeard l records → SumsOf l.job f (gone_among l.job records)
    → SumsOf l'.job g (gone_among l'.job (records ++ octets ∷ []))
heard_more l l' f g records octets same listens heard s =
    subst (λ (job : RecordJob). SumsOf job g (gone_among job (records ++ octets ∷ []))) (sym same)
    (sums_gained l.job f g (gone_among l.job records) (gone_among l.job (records ++ octets ∷ [])) s (listens.out records heard))

-- nothing was delivered
pub delivers_none : (t : Tape) → Delivers t t []
delivers_none t = record {
  job = refl;
  count = omega arith;
  recorded = λ records r. subst (HasRecorded t) (sym (append-nil records)) r;
}

-- packets behind others
pub delivers_both : (t u v : Tape) (xs ys : List (List ℕ)) → Delivers t u xs → Delivers u v ys → Delivers t v (xs ++ ys)
delivers_both t u v xs ys p q =
    let m = p.count in
    let n = q.count in
    let l = length-append xs ys in
    record {
      job = q.job ∙ p.job;
      count = omega (arith, m, n, l);
      recorded = λ records r. subst (HasRecorded v) (append_assoc records xs ys) (q.recorded (records ++ xs) (p.recorded records r));
    }

-- where a packet was held, one was delivered, and it behind that
pub passed_on : (held held' : Option (List ℕ)) (t t' : Tape) (packet : List ℕ) → IsSome held
    → Passes held held' t t' (packet ∷ []) → HoldsOr held held' t t' packet 0
passed_on None held' t t' packet some p = absurd cc
passed_on (Some y) held' t t' packet some p = record { passes = p; counted = refl }

-- a number of octets that wasn't cut
uncut : (n few blocks heard window : ℕ) → n ≤ 19 + 366 * few → few ≤ blocks + window → blocks ≤ heard * 45000 → heard ≤ 2 ^ 40 → window ≤ 65535
    → n < 2 ^ 64
uncut n few blocks heard window a b c d e = omega (arith, a, b, c, d, e)

-- the recording was ended
pub ended : (l l' : Listener) (f g : FileSum) (records : List (List ℕ)) (counts : Counts)
    → Closes (Got f g) l l' → HasHeard l records → SumsOf l.job f (gone_among l.job records)
    → counts ≡ counted_in_all l'.tally l'.receiver.counts
    → IsGoing l.receiver l.tally → l.job.plan.window ≤ 65535
    → IsRecordOf l.job records (record { counts = counts; file = g })
ended l l' f g records counts closes heard s told going window =
    let file = sums_gained l.job f g (gone_among l.job records) (released_among l.job records) s (closes.out records heard) in
    let text = file_of (recording_of l.job) records in
    let all : length text < 2 ^ 64 =
    uncut (length text) (length (released_among l.job records)) l.receiver.counts.blocks l.tally.packets l.job.plan.window
    file.few (closes.few records heard) going.bounded.blocks going.few window in
    record {
      counts = told ∙ closes.counts records heard;
      count = file.sums.counts ∙ mod-eq_of_lt all;
      total = file.sums.totals;
    }
