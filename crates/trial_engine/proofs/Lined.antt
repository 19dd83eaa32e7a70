-- Packets that are put on a lossy line.
use Rattle.std.proofs.Common.{◌≡◌, ℕ, ◌+◌, List, [], ◌∷◌, ◌++◌, length, Option, Some, None, refl, sym, ap, ◌∙◌, subst, arith, append_assoc}
use Rattle.std.proofs.lemmas.List.{length-append}
use Rattle.std.proofs.lemmas.List.FromFn.{length-map-range_with_len, map-range_with_len_more}
use Rattle.std.proofs.lemmas.List.Sums.{fold-append}
use Rattle.std.specs.Prelude.{fold, zip}
use Rattle.std.specs.Option.{option_to_list}
use Rattle.record_hearing.specs.declared.job.RecordJob.{RecordJob}
use Rattle.spec_trial.specs.Delivery.{Fate, Line, delivery_seed, fate_at, fate_of, fates, fresh_line, on_line, past, with_fate, Held}
use Rattle.spec_trial.specs.Draws.{after, drawn, next}
use Rattle.trial_engine.proofs.Making.{after-more}
use Rattle.trial_engine.specs.Fates.{HoldsOr, Passes}
use Rattle.trial_engine.specs.Lines.{IsOn, Shows, carried}
use Rattle.trial_engine.specs.Tapes.{Delivers, HasRecorded}
use Rattle.trial_engine.specs.declared.line.LossyLine.{LossyLine}
use Rattle.trial_engine.specs.declared.tape.Tape.{Tape}

zip_more : {X Y : Type 0} (xs : List X) (ys : List Y) (x : X) (y : Y) → length ys ≡ length xs
    → zip (xs ++ x ∷ []) (ys ++ y ∷ []) ≡ zip xs ys ++ (x, y) ∷ []
zip_more [] [] x y e = refl
zip_more [] (v ∷ ys) x y e = absurd (omega (arith, e))
zip_more (u ∷ xs) [] x y e = absurd (omega (arith, e))
zip_more (u ∷ xs) (v ∷ ys) x y e = ap (λ l. (u, v) ∷ l) (zip_more xs ys x y (omega (arith, e)))

length_more : (xs : List (List ℕ)) (x : List ℕ) → length (xs ++ x ∷ []) ≡ length xs + 1
length_more xs x = length-append xs (x ∷ [])

-- a packet more meets its fate
pub carried_more : (seed : ℕ) (xs : List (List ℕ)) (x : List ℕ)
    → carried seed (xs ++ x ∷ []) ≡ with_fate (carried seed xs) x (fate_at seed (length xs))
carried_more seed xs x =
    let n = length xs in
    let more : fates seed (length (xs ++ x ∷ [])) ≡ fates seed n ++ fate_at seed n ∷ [] =
    ap (fates seed) (length_more xs x) ∙ map-range_with_len_more (fate_at seed) 0 n n (omega arith) in
    ap (on_line (xs ++ x ∷ [])) more
    ∙ ap (λ l. fold (λ (line : Line (List ℕ)) p. with_fate line p.0 p.1) fresh_line l)
    (zip_more xs (fates seed n) x (fate_at seed n) (length-map-range_with_len (fate_at seed) 0 n))
    ∙ fold-append (λ (line : Line (List ℕ)) p. with_fate line p.0 p.1) fresh_line (zip xs (fates seed n)) ((x, fate_at seed n) ∷ [])

-- a packet more was put, which met this fate
pub put_one : (job : RecordJob) (seed : ℕ) (line line' : LossyLine) (xs : List (List ℕ)) (x : List ℕ) (fate : Fate)
    → IsOn job seed line xs → line'.tape.listener.job ≡ line.tape.listener.job
    → line'.draws.state ≡ next line.draws.state → line'.sent ≡ line.sent + 1 → line'.full ≡ line.full
    → fate ≡ fate_of (drawn line'.draws.state 16)
    → ((l : Line (List ℕ)) → Shows line l → Shows line' (with_fate l x fate))
    → IsOn job seed line' (xs ++ x ∷ [])
put_one job seed line line' xs x fate on same state sent full is shows =
    let n = length xs in
    let from = delivery_seed seed in
    let state_is : line'.draws.state ≡ after from (n + 1) = state ∙ ap next on.drawn ∙ sym (after-more from n) in
    let fate_is : fate ≡ fate_at seed n = is ∙ ap (λ y. fate_of (drawn y 16)) state_is in
    let more = length_more xs x in
    record {
      job_is = same ∙ on.job_is;
      drawn = state_is ∙ ap (after from) (sym more);
      sent_is = sent ∙ ap (λ k. k + 1) on.sent_is ∙ sym more;
      not_full = full ∙ on.not_full;
      shows = subst (Shows line') (ap (with_fate (carried seed xs) x) fate_is ∙ sym (carried_more seed xs x)) (shows (carried seed xs) on.shows);
    }

-- packets were delivered, and behind them the one that was held
pub passed : (l : Line (List ℕ)) (w : Option (List ℕ)) (t t' : Tape) (xs : List (List ℕ)) → w ≡ l.waiting
    → Delivers t t' (xs ++ option_to_list w) → HasRecorded t l.delivered → HasRecorded t' (past l xs).delivered
passed l w t t' xs is d r =
    subst (HasRecorded t')
    (sym (append_assoc l.delivered xs (option_to_list w)) ∙ ap (λ o. l.delivered ++ xs ++ option_to_list o) is)
    (d.recorded l.delivered r)

-- a packet was delivered once or twice, and behind it the one that was held
pub passed_shows : (line line' : LossyLine) (l : Line (List ℕ)) (xs : List (List ℕ)) (lost doubled held : ℕ) → Shows line l
    → Passes line.waiting line'.waiting line.tape line'.tape xs
    → line'.lost ≡ lost → line'.doubled ≡ doubled → line'.held ≡ held
    → Shows line' (record (past l xs) { lost = lost; doubled = doubled; held = held })
passed_shows line line' l xs lost doubled held s p a b c = record {
  recorded = passed l line.waiting line.tape line'.tape xs s.waits p.delivers s.recorded;
  waits = p.none;
  lost_is = a;
  doubled_is = b;
  held_is = c;
}

-- a packet was held, or delivered where one was held
pub held_shows : (line line' : LossyLine) (delivered : List (List ℕ)) (waiting : Option (List ℕ)) (lost doubled held : ℕ)
    (x : List ℕ) (count : ℕ)
    → Shows line (record { delivered = delivered; waiting = waiting; lost = lost; doubled = doubled; held = held })
    → HoldsOr line.waiting line'.waiting line.tape line'.tape x count
    → line'.lost ≡ line.lost → line'.doubled ≡ line.doubled → line'.held ≡ line.held + count
    → Shows line' (with_fate (record { delivered = delivered; waiting = waiting; lost = lost; doubled = doubled; held = held }) x Held)
held_shows line line' delivered None lost doubled held x count s h a b c =
    let holds = subst (λ (w : Option (List ℕ)). HoldsOr w line'.waiting line.tape line'.tape x count) s.waits h in
    let one = holds.counted in
    let old = s.held_is in
    record {
      recorded = subst (λ (t : Tape). HasRecorded t delivered) (sym holds.tape) s.recorded;
      waits = holds.packet_is;
      lost_is = a ∙ s.lost_is;
      doubled_is = b ∙ s.doubled_is;
      held_is = omega (arith, one, old, c);
    }
held_shows line line' delivered (Some y) lost doubled held x count s h a b c =
    let passes = subst (λ (w : Option (List ℕ)). HoldsOr w line'.waiting line.tape line'.tape x count) s.waits h in
    let none = passes.counted in
    let old = s.held_is in
    let l : Line (List ℕ) = record { delivered = delivered; waiting = Some y; lost = lost; doubled = doubled; held = held } in
    record {
      recorded = passed l (Some y) line.tape line'.tape (x ∷ []) refl passes.passes.delivers s.recorded;
      waits = passes.passes.none;
      lost_is = a ∙ s.lost_is;
      doubled_is = b ∙ s.doubled_is;
      held_is = omega (arith, none, old, c);
    }

-- the job is the same
pub held_job : (w w' : Option (List ℕ)) (t t' : Tape) (x : List ℕ) (count : ℕ) → HoldsOr w w' t t' x count
    → t'.listener.job ≡ t.listener.job
held_job None w' t t' x count h = ap (λ (t : Tape). t.listener.job) h.tape
held_job (Some y) w' t t' x count h = h.passes.delivers.job
