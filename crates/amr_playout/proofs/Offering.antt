-- What an offer does to a receiver, by what its steps do.
use Rattle.std.proofs.Common.{◌≡◌, ℕ, ◌+◌, ◌^◌, ◌<◌, ◌≤◌, ◌++◌, List, [], ◌∷◌, length, refl, sym, ap, ◌∙◌, subst, arith}
use Rattle.std.proofs.Common.{append_assoc, length-append, Option, Some, None, Ok, Err, true, false, inl, inr}
use Rattle.std.specs.Prelude.{map, sum}
use Rattle.amr_frame.specs.declared.block_sink.BlockSink as blocks
use Rattle.amr_frame.specs.declared.cell.Cell.{Cell}
use Rattle.amr_frame.specs.Frames.{Frame}
use Rattle.amr_frame.specs.Steps.{BlockStep}
use Rattle.amr_io.specs.declared.source.Failed.{Failed}
use Rattle.amr_playout.proofs.Plans.{facts}
use Rattle.amr_playout.proofs.Segmenting.{accepted_begun, accepted_one, again_begun, again_in, again_one, begins_as}
use Rattle.amr_playout.proofs.Segmenting.{gone_begun}
use Rattle.amr_playout.proofs.Segmenting.{joined, joins_as, late_by, opened, passed_as, passed_over, with_one}
use Rattle.amr_playout.proofs.Segmenting.{with_segment}
use Rattle.amr_playout.proofs.Segmenting.{with_stray}
use Rattle.amr_playout.specs.declared.answers.Kept.{Kept}
use Rattle.amr_playout.specs.declared.answers.Refusal.{Refusal}
use Rattle.amr_playout.specs.declared.answers.Taken.{Taken}
use Rattle.amr_playout.specs.declared.plan.Plan.{Plan}
use Rattle.amr_playout.specs.declared.receiver.Receiver.TheInside.{Inside}
use Rattle.amr_playout.specs.declared.session.Begun.{Begun}
use Rattle.amr_playout.specs.declared.step.Step.{Step}
use Rattle.amr_playout.specs.declared.verdict.Spot.{Spot}
use Rattle.amr_playout.specs.declared.verdict.Spot.TheVariants.{Here, Anew}
use Rattle.amr_playout.specs.Counted.{counted_with}
use Rattle.amr_playout.specs.Gains.{Gains, GainsPart}
use Rattle.amr_playout.specs.Offers.{Fails, IsTaken, Refuses, Takes, verdict_on}
use Rattle.amr_playout.specs.Plans.{IsPlan, rules_in}
use Rattle.amr_playout.specs.Receiver.{Grows, StandsFor, View, view_of}
use Rattle.amr_playout.specs.Standing.{Holds, IsInside, IsSeat, horizon_with, last_from, placed}
use Rattle.amr_playout.specs.Steps.{HasSeat, TakesAt, TakesAtPart, taken_as}
use Rattle.amr_playout.specs.Verdicts.{IsFound, IsHere, IsPassed, IsAnew, IsWithinReach, begins, segment_with}
use Rattle.amr_playout.specs.Verdicts.{stray_with}
use Rattle.amr_playout.specs.Window.{held_of}
use Rattle.circular_buffer.specs.Buffer.{Buffer}
use Rattle.spec_payload.specs.Values.{Value}
use Rattle.spec_segments.specs.Release.{gone_in, gone_out, released_closed, released_segment}
use Rattle.spec_segments.specs.Segments.{Segments, accepted_of, segments}
use Rattle.spec_session.specs.Counts.{late_in}
use Rattle.spec_session.specs.Packets.{Packet}
use Rattle.spec_session.specs.Release.{gone_of}
use Rattle.spec_session.specs.Session.{Accepted, Rules, begun}

grows_by : (plan : Plan) (before : Option Begun) (s : Begun) (v : Value) (place released : ℕ) → IsSeat before place
    → IsWithinReach (rules_in plan) before v place → s.horizon ≡ horizon_with before (last_from (rules_in plan) v place)
    → last_from (rules_in plan) v place < place + plan.window
    → ((t : Begun) → before ≡ Some t → t.horizon + released ≤ s.horizon) → (before ≡ None → released ≡ 0)
    → Grows plan before (Some s) released
grows_by plan None s v place released seat reach is fits rise none =
    let first = seat.first refl in (none refl, omega (arith, is, fits, first))
grows_by plan (Some t) s v place released seat reach is fits rise none =
    let near = reach t refl in (rise t refl, omega (arith, is, near))

-- no more blocks go out than the horizon counts
few_gone : (before : Option Begun) (horizon released : ℕ) →
    ((t : Begun) → before ≡ Some t → t.horizon + released ≤ horizon)
    → (before ≡ None → released ≡ 0) → released ≤ horizon
few_gone None horizon released rise none = let e = none refl in omega (arith, e)
few_gone (Some t) horizon released rise none = let e = rise t refl in omega (arith, e)

-- a place that was found serves, and what is taken there leaves the segment right
pub has_seat : (rules : Rules) (before : Option Begun) (stray : Option ℕ) (x : Packet) (spot : Spot)
    → IsFound rules before stray x spot → HasSeat before spot
has_seat rules before stray x (Here place) f = f.seat
has_seat rules before stray x Anew f = tt

module _ {S : Type 0} (b : blocks.Ghosts S) (plan : Plan) (before : Option Begun) (x : Packet)
    (ring ring' : Buffer Cell)
    (old new : S) (s : Step) where
  pub inside_at : (spot : Spot) → TakesAt b plan before x spot ring ring' old new s → IsInside (rules_in plan)
      (Some s.session)
  inside_at (Here place) a = a.inside
  inside_at Anew a = a.inside

  -- what is put out fits 63 bits
  pub few_at : (spot : Spot) → IsPlan plan → TakesAt b plan before x spot ring ring' old new s → s.released < 2 ^ 63
  few_at (Here place) valid a =
      let few = few_gone before s.session.horizon s.released a.rise a.none in
      let small = a.inside.1 in
      omega (arith, few, small)
  few_at Anew valid a = let few = a.rest in let narrow = (facts plan valid).narrow in omega (arith, few, narrow)

-- what is gained behind a front that is out
gains_under : {S B : Type 0} (whole : S → B → S → Type 0) (old new : S) (front less more : List B)
    → Gains whole old new less more → Gains whole old new (front ++ less) (front ++ more)
gains_under whole old new front less more g = record {
  blocks = g.blocks;
  got = g.got;
  more_by = ap (λ bs. front ++ bs) g.more_by ∙ sym (append_assoc front less g.blocks);
}

part_under : {S B : Type 0} (whole part : S → B → S → Type 0) (old new : S) (front less more : List B)
    → GainsPart whole part old new less more → GainsPart whole part old new (front ++ less) (front ++ more)
part_under whole part old new front less more g = record {
  blocks = g.blocks;
  got = g.got;
  more_by = ap (λ bs. front ++ bs) g.more_by ∙ sym (append_assoc front less g.blocks);
}

-- a receiver that has accepted a packet, one that has refused one, and one whose sink has failed or that was ended
abbrev pub accepted_by : Inside → Buffer Cell → Step → ℕ → Kept → View
accepted_by r ring s segment counts = record {
  plan = r.plan;
  session = Some s.session;
  segment = segment;
  stray = None;
  cells = held_of ring.items;
  counts = counts;
  spent = r.spent;
}

abbrev pub refused_by : Inside → Option ℕ → View
refused_by r stray = record {
  plan = r.plan;
  session = r.session;
  segment = r.segment;
  stray = stray;
  cells = held_of r.ring.items;
  counts = r.counts;
  spent = r.spent;
}

abbrev pub spent_by : Inside → Buffer Cell → Kept → View
spent_by r ring counts = record {
  plan = r.plan;
  session = r.session;
  segment = r.segment;
  stray = r.stray;
  cells = held_of ring.items;
  counts = counts;
  spent = true;
}

module _ {S : Type 0} (b : blocks.Ghosts S) (r : Inside) (x : Packet) (old new : S) where
  abbrev rules : Rules
  rules = rules_in r.plan

  abbrev cells : List (Option Frame)
  cells = held_of r.ring.items

  abbrev behind : List Packet → Segments
  behind h = segments rules (h ++ x ∷ [])

  -- the segments behind the packet
  joins : (place : ℕ) → IsHere rules r.session x place → (h : List Packet) → StandsFor (view_of r) h
      → behind h ≡ with_one (segments rules h) (placed r.session x place)
  joins place f h stands =
      joined rules h x (placed r.session x place) (f.seated cells (segments rules h).last stands.kept)

  opens : (f : IsAnew rules r.session r.stray x) (h : List Packet) → StandsFor (view_of r) h
      → behind h ≡ with_segment (segments rules h) x
  opens f h stands =
      opened rules h x f.why (f.declined cells (segments rules h).last stands.kept)
      (subst (λ o. begins o x.sequence f.why ≡ true) stands.stray f.next)

  passes : (why : Refusal) → IsPassed rules r.session r.stray x why → (h : List Packet) → StandsFor (view_of r) h
      → behind h ≡ with_stray (segments rules h) (stray_with (segments rules h).stray x.sequence why)
  passes why p h stands =
      passed_over rules h x why (p.declined cells (segments rules h).last stands.kept)
      (subst (λ o. begins o x.sequence why ≡ false) stands.stray p.alone)

  takes_at : (spot : Spot) (ring' : Buffer Cell) (s : Step) (counts : Kept) → IsFound rules r.session r.stray x spot
      → TakesAt b r.plan r.session x spot r.ring ring' old new s → BlockStep {A = Step} {E = Failed} b old new (Ok s)
      → r.spent ≡ false → counts ≡ counted_with r.counts (taken_as (segment_with r.segment spot) s)
      → Takes b (view_of r) (accepted_by r ring' s (segment_with r.segment spot) counts) x old new
      (taken_as (segment_with r.segment spot) s)
  takes_at (Here place) ring' s counts f a step unspent counts_is =
      let p : Accepted = placed r.session x place in
      record {
        verdict = λ h stands. subst IsTaken
            (sym (joins_as rules h x p (f.seated cells (segments rules h).last stands.kept))) tt;
        stands = λ h stands.
            (let t : Segments = segments rules h in
            let e : behind h ≡ with_one t p = joins place f h stands in
            record {
              unspent = unspent;
              kept = subst (λ (u : Segments). Holds rules (Some s.session) (held_of ring'.items) u.last) (sym e)
                  (a.holds t.last stands.kept);
              number = stands.number ∙ sym (ap (λ (u : Segments). length u.closed) e);
              stray = sym (ap (λ (u : Segments). u.stray) e);
              counted = record {
                late =
                    (let now = ap (λ (k : Kept). k.late) counts_is in
                    let before = stands.counted.late in
                    let one = a.late in
                    let all = late_by rules t (behind h) p (ap accepted_of e ∙ accepted_one t p) in
                    omega (arith, now, before, one, all));
                copies =
                    (let now = ap (λ (k : Kept). k.copies) counts_is in
                    let before = stands.counted.copies in
                    let all = ap (λ (u : Segments). again_in rules (u.closed ++ u.last ∷ [])) e
                    ∙ again_one rules t p s.copies (a.copies t.last stands.kept) in
                    omega (arith, now, before, all));
                blocks =
                    (let now = ap (λ (k : Kept). k.blocks) counts_is in
                    let before = stands.counted.blocks in
                    let all = ap (λ (u : Segments). length (gone_in rules u)) e in
                    let size = length-append (released_closed rules t) (gone_of rules t.last) in
                    let more = length-append (released_closed rules t) (gone_of rules (t.last ++ p ∷ [])) in
                    let one = a.counted t.last stands.kept in
                    omega (arith, now, before, all, size, more, one));
              };
            });
        out = λ h stands.
            (let t : Segments = segments rules h in
            subst (Gains b.whole old new (gone_out rules h)) (sym (ap (gone_in rules) (joins place f h stands)))
            (gains_under b.whole old new (released_closed rules t) (gone_of rules t.last)
            (gone_of rules (t.last ++ p ∷ []))
            (a.out t.last stands.kept)));
        counts = counts_is;
        segment = refl;
        stray = refl;
        few = a.few;
        moves = inl (refl, grows_by r.plan r.session s.session x.value place s.released f.seat f.reach a.horizon a.fits a.rise a.none);
        unspent = unspent;
        step = record { cause = step.cause; same = step.same; ready = step.ready; kept = step.kept };
      }
  takes_at Anew ring' s counts f a step unspent counts_is =
      record {
        verdict = λ h stands.
            subst IsTaken (sym (begins_as rules h x f.why (f.declined cells (segments rules h).last stands.kept)
            (subst (λ o. begins o x.sequence f.why ≡ true) stands.stray f.next))) tt;
        stands = λ h stands.
            (let t : Segments = segments rules h in
            let e : behind h ≡ with_segment t x = opens f h stands in
            record {
              unspent = unspent;
              kept = subst (λ (u : Segments). Holds rules (Some s.session) (held_of ring'.items) u.last) (sym e)
                  (a.holds t.last stands.kept);
              number = ap (λ n. n + 1) stands.number
                  ∙ sym (ap (λ (u : Segments). length u.closed) e ∙ length-append t.closed (t.last ∷ []));
              stray = sym (ap (λ (u : Segments). u.stray) e);
              counted = record {
                late =
                    (let now = ap (λ (k : Kept). k.late) counts_is in
                    let before = stands.counted.late in
                    let one = a.late in
                    let all = late_by rules t (behind h) (begun x) (ap accepted_of e ∙ accepted_begun t x) in
                    omega (arith, now, before, one, all));
                copies =
                    (let now = ap (λ (k : Kept). k.copies) counts_is in
                    let before = stands.counted.copies in
                    let all = ap (λ (u : Segments). again_in rules (u.closed ++ u.last ∷ [])) e
                    ∙ again_begun rules (t.closed ++ t.last ∷ []) (begun x) s.copies (a.copies t.last stands.kept) in
                    omega (arith, now, before, all));
                blocks =
                    (let now = ap (λ (k : Kept). k.blocks) counts_is in
                    let before = stands.counted.blocks in
                    let all = ap (λ (u : Segments). length (gone_in rules u)) e ∙ ap length (gone_begun rules t x) in
                    let rest = released_segment rules t.last in
                    let first = gone_of rules (begun x ∷ []) in
                    let size = length-append (released_closed rules t) (gone_of rules t.last) in
                    let more = length-append (released_closed rules t) (rest ++ first) in
                    let both = length-append rest first in
                    let one = a.counted t.last stands.kept in
                    omega (arith, now, before, all, size, more, both, one));
              };
            });
        out = λ h stands.
            (let t : Segments = segments rules h in
            subst (Gains b.whole old new (gone_out rules h))
            (sym (ap (gone_in rules) (opens f h stands) ∙ gone_begun rules t x))
            (gains_under b.whole old new (released_closed rules t) (gone_of rules t.last)
            (released_segment rules t.last ++ gone_of rules (begun x ∷ [])) (a.out t.last stands.kept)));
        counts = counts_is;
        segment = refl;
        stray = refl;
        few = a.few;
        moves = inr (refl, (a.horizon, a.rest));
        unspent = unspent;
        step = record { cause = step.cause; same = step.same; ready = step.ready; kept = step.kept };
      }

  pub takes : (spot : Spot) (ring' : Buffer Cell) (s : Step) (t : Taken) (counts : Kept)
      → t ≡ taken_as (segment_with r.segment spot) s → counts ≡ counted_with r.counts t
      → IsFound rules r.session r.stray x spot → TakesAt b r.plan r.session x spot r.ring ring' old new s
      → BlockStep {A = Step} {E = Failed} b old new (Ok s) → r.spent ≡ false
      → Takes b (view_of r) (accepted_by r ring' s t.segment counts) x old new t
  takes spot ring' s t counts t_is counts_is f a step unspent =
      subst (λ (u : Taken). Takes b (view_of r) (accepted_by r ring' s u.segment counts) x old new u) (sym t_is)
      (takes_at spot ring' s counts f a step unspent (counts_is ∙ ap (counted_with r.counts) t_is))

  pub refuses : (why : Refusal) (stray : Option ℕ) → stray ≡ stray_with r.stray x.sequence why
      → IsPassed rules r.session r.stray x why → Refuses (view_of r) (refused_by r stray) x old old why
  refuses why stray stray_is p =
      record {
        verdict = λ h stands.
            passed_as rules h x why (p.declined cells (segments rules h).last stands.kept)
            (subst (λ o. begins o x.sequence why ≡ false) stands.stray p.alone);
        stands = λ h stands.
            (let e = passes why p h stands in
            record {
              unspent = stands.unspent;
              kept = subst (λ (u : Segments). Holds rules r.session cells u.last) (sym e) stands.kept;
              number = stands.number ∙ sym (ap (λ (u : Segments). length u.closed) e);
              stray = stray_is ∙ ap (λ o. stray_with o x.sequence why) stands.stray
                  ∙ sym (ap (λ (u : Segments). u.stray) e);
              counted = record {
                late = stands.counted.late ∙ sym (ap (λ (u : Segments). sum (map (late_in rules) (accepted_of u))) e);
                copies = stands.counted.copies
                    ∙ sym (ap (λ (u : Segments). again_in rules (u.closed ++ u.last ∷ [])) e);
                blocks = stands.counted.blocks ∙ sym (ap (λ (u : Segments). length (gone_in rules u)) e);
              };
            });
        quiet = λ h stands. ap (gone_in rules) (passes why p h stands);
        receiver = ap (refused_by r) stray_is;
        sink = refl;
      }

  taken_at : (spot : Spot) → IsFound rules r.session r.stray x spot → (h : List Packet) → StandsFor (view_of r) h
      → IsTaken (verdict_on (view_of r) h x)
  taken_at (Here place) f h stands =
      subst IsTaken (sym (joins_as rules h x (placed r.session x place)
      (f.seated cells (segments rules h).last stands.kept))) tt
  taken_at Anew f h stands =
      subst IsTaken (sym (begins_as rules h x f.why (f.declined cells (segments rules h).last stands.kept)
      (subst (λ o. begins o x.sequence f.why ≡ true) stands.stray f.next))) tt

  part_at : (spot : Spot) → IsFound rules r.session r.stray x spot
      → TakesAtPart b r.plan r.session x spot r.ring old new → (h : List Packet) → StandsFor (view_of r) h
      → GainsPart b.whole b.part old new (gone_out rules h) (gone_out rules (h ++ x ∷ []))
  part_at (Here place) f a h stands =
      let t : Segments = segments rules h in
      subst (GainsPart b.whole b.part old new (gone_out rules h)) (sym (ap (gone_in rules) (joins place f h stands)))
      (part_under b.whole b.part old new (released_closed rules t) (gone_of rules t.last)
      (gone_of rules (t.last ++ placed r.session x place ∷ [])) (a t.last stands.kept))
  part_at Anew f a h stands =
      let t : Segments = segments rules h in
      subst (GainsPart b.whole b.part old new (gone_out rules h))
      (sym (ap (gone_in rules) (opens f h stands) ∙ gone_begun rules t x))
      (part_under b.whole b.part old new (released_closed rules t) (gone_of rules t.last)
      (released_segment rules t.last ++ gone_of rules (begun x ∷ [])) (a t.last stands.kept))

  pub fails : (spot : Spot) (ring' : Buffer Cell) (why : Failed) → IsFound rules r.session r.stray x spot
      → TakesAtPart b r.plan r.session x spot r.ring old new → BlockStep {A = Step} {E = Failed} b old new (Err why)
      → Fails b (view_of r) (spent_by r ring' r.counts) x old new
  fails spot ring' why f part step = record {
    verdict = taken_at spot f;
    part = part_at spot f part;
    session = refl;
    counts = refl;
    spent = refl;
    step = record { cause = step.cause; same = step.same; ready = step.ready; kept = step.kept };
  }
