-- What one packet more does to segments, and to what is counted of them.
use Rattle.std.proofs.Common.{◌≡◌, ℕ, ◌+◌, ◌-◌, true, false, cond, List, [], ◌∷◌, ◌++◌, length, sym, ap, ◌∙◌}
use Rattle.std.proofs.Common.{arith}
use Rattle.std.proofs.Common.{append_assoc, append-nil, None, Option}
use Rattle.std.specs.Prelude.{flat_map, map, sum}
use Rattle.std.proofs.lemmas.List.{map-append}
use Rattle.std.proofs.lemmas.List.Concat.{flat_map-append}
use Rattle.std.proofs.lemmas.List.Sums.{fold-append}
use Rattle.amr_playout.proofs.Accepting.{late_more, sum-more}
use Rattle.amr_playout.proofs.Counts.{again_more}
use Rattle.amr_playout.proofs.Holding.{copies_of_more}
use Rattle.amr_playout.specs.declared.answers.Refusal.{Refusal}
use Rattle.amr_playout.specs.declared.answers.Refusal.TheVariants as refusal
use Rattle.amr_playout.specs.Refusals.{IsRefusal, IsRefusedAs}
use Rattle.amr_playout.specs.Verdicts.{begins, stray_with}
use Rattle.spec_segments.specs.Counts.{repeats}
use Rattle.spec_segments.specs.Release.{gone_in, released_closed, released_segment}
use Rattle.spec_segments.specs.Segments.{Segments, Begins, Within, accepted_of, at_start, judged}
use Rattle.spec_segments.specs.Segments.{passed, segments}
use Rattle.spec_segments.specs.Segments.{verdict, with_packet}
use Rattle.spec_session.specs.Copies.{copies_in, copies_of}
use Rattle.spec_session.specs.Counts.{different, late_in}
use Rattle.spec_session.specs.Packets.{Packet}
use Rattle.spec_session.specs.Release.{gone_of}
use Rattle.spec_session.specs.Session as session
use Rattle.spec_session.specs.Session.{Accept, Accepted, FarAhead, OffGrid, OtherSource, Rules, begun}

-- a packet that joins the last segment, that begins another, and that is refused
abbrev pub with_one : Segments → Accepted → Segments
with_one s a = record { closed = s.closed; last = s.last ++ a ∷ []; stray = None }

abbrev pub with_segment : Segments → Packet → Segments
with_segment s x = record { closed = s.closed ++ s.last ∷ []; last = begun x ∷ []; stray = None }

abbrev pub with_stray : Segments → Option ℕ → Segments
with_stray s stray = record { closed = s.closed; last = s.last; stray = stray }

module _ (rules : Rules) (h : List Packet) (x : Packet) where
  abbrev now : Segments
  now = segments rules h

  more : segments rules (h ++ x ∷ []) ≡ passed now x (verdict rules now x)
  more = fold-append (with_packet rules) at_start h (x ∷ [])

  pub joins_as : (a : Accepted) → session.verdict rules now.last x ≡ Accept a → verdict rules now x ≡ Within (Accept a)
  joins_as a e = ap (judged now x) e

  pub joined : (a : Accepted) → session.verdict rules now.last x ≡ Accept a
      → segments rules (h ++ x ∷ []) ≡ with_one now a
  joined a e = more ∙ ap (passed now x) (joins_as a e)

  pub begins_as : (why : Refusal) → IsRefusal (session.verdict rules now.last x) why
      → begins now.stray x.sequence why ≡ true → verdict rules now x ≡ Begins (begun x)
  begins_as (refusal.OtherSource kept got) r n = absurd cc
  begins_as (refusal.OffGrid delta) r n =
      ap (judged now x) r ∙ ap (λ b. cond b (Begins (begun x)) (Within (OffGrid delta))) n
  begins_as (refusal.FarAhead horizon last) r n =
      ap (judged now x) r ∙ ap (λ b. cond b (Begins (begun x)) (Within (FarAhead horizon last))) n

  pub opened : (why : Refusal) → IsRefusal (session.verdict rules now.last x) why
      → begins now.stray x.sequence why ≡ true → segments rules (h ++ x ∷ []) ≡ with_segment now x
  opened why r n = more ∙ ap (passed now x) (begins_as why r n)

  pub passed_as : (why : Refusal) → IsRefusal (session.verdict rules now.last x) why
      → begins now.stray x.sequence why ≡ false → IsRefusedAs (verdict rules now x) why
  passed_as (refusal.OtherSource kept got) r n = ap (judged now x) r
  passed_as (refusal.OffGrid delta) r n =
      ap (judged now x) r ∙ ap (λ b. cond b (Begins (begun x)) (Within (OffGrid delta))) n
  passed_as (refusal.FarAhead horizon last) r n =
      ap (judged now x) r ∙ ap (λ b. cond b (Begins (begun x)) (Within (FarAhead horizon last))) n

  over : (why : Refusal) → IsRefusedAs (verdict rules now x) why
      → segments rules (h ++ x ∷ []) ≡ with_stray now (stray_with now.stray x.sequence why)
  over (refusal.OtherSource kept got) r = more ∙ ap (passed now x) r
  over (refusal.OffGrid delta) r = more ∙ ap (passed now x) r
  over (refusal.FarAhead horizon last) r = more ∙ ap (passed now x) r

  pub passed_over : (why : Refusal) → IsRefusal (session.verdict rules now.last x) why
      → begins now.stray x.sequence why ≡ false
      → segments rules (h ++ x ∷ []) ≡ with_stray now (stray_with now.stray x.sequence why)
  passed_over why r n = over why (passed_as why r n)

-- the accepted packets of all segments
module _ (s : Segments) where
  pub accepted_one : (a : Accepted) → accepted_of (with_one s a) ≡ accepted_of s ++ a ∷ []
  accepted_one a = sym (append_assoc (flat_map (λ segment. segment) s.closed) s.last (a ∷ []))

  pub accepted_begun : (x : Packet) → accepted_of (with_segment s x) ≡ accepted_of s ++ begun x ∷ []
  accepted_begun x =
      ap (λ (l : List Accepted). l ++ begun x ∷ [])
      (flat_map-append (λ (segment : List Accepted). segment) s.closed (s.last ∷ [])
      ∙ ap (λ (l : List Accepted). flat_map (λ (segment : List Accepted). segment) s.closed ++ l) (append-nil s.last))

-- the late blocks of one accepted packet more
pub late_by : (rules : Rules) (s t : Segments) (a : Accepted) → accepted_of t ≡ accepted_of s ++ a ∷ []
    → sum (map (late_in rules) (accepted_of t)) ≡ sum (map (late_in rules) (accepted_of s)) + late_in rules a
late_by rules s t a e = ap (λ acc. sum (map (late_in rules) acc)) e ∙ late_more rules (accepted_of s) a

-- the copies of segments that came for a place and channel that had one
abbrev pub again_in : Rules → List (List Accepted) → ℕ
again_in rules all = sum (map repeats (map (copies_of rules) all))

again_last : (rules : Rules) (closed : List (List Accepted)) (last : List Accepted)
    → again_in rules (closed ++ last ∷ []) ≡ again_in rules closed + repeats (copies_of rules last)
again_last rules closed last =
    ap (λ all. sum (map repeats all)) (map-append (copies_of rules) closed (last ∷ []))
    ∙ ap sum (map-append repeats (map (copies_of rules) closed) (copies_of rules last ∷ []))
    ∙ sum-more (map repeats (map (copies_of rules) closed)) (repeats (copies_of rules last))

pub again_one : (rules : Rules) (s : Segments) (a : Accepted) (n : ℕ)
    → different (copies_of rules s.last ++ copies_in rules a) + n
    ≡ different (copies_of rules s.last) + length (copies_in rules a)
    → again_in rules (s.closed ++ (s.last ++ a ∷ []) ∷ []) ≡ again_in rules (s.closed ++ s.last ∷ []) + n
again_one rules s a n e =
    let before = again_last rules s.closed s.last in
    let after = again_last rules s.closed (s.last ++ a ∷ []) in
    let one = ap repeats (copies_of_more rules s.last a) ∙ again_more (copies_of rules s.last)
    (copies_in rules a) n e in
    omega (arith, before, after, one)

pub again_begun : (rules : Rules) (all : List (List Accepted)) (a : Accepted) (n : ℕ)
    → different (copies_in rules a) + n ≡ length (copies_in rules a)
    → again_in rules (all ++ (a ∷ []) ∷ []) ≡ again_in rules all + n
again_begun rules all a n e =
    let after = again_last rules all (a ∷ []) in
    let zero : length (copies_in rules a) ≡ 0 + length (copies_in rules a) = omega arith in
    let one = ap repeats (append-nil (copies_in rules a)) ∙ again_more [] (copies_in rules a) n (e ∙ zero) in
    omega (arith, after, one)

-- what has gone out where a segment is begun
pub gone_begun : (rules : Rules) (s : Segments) (x : Packet)
    → gone_in rules (with_segment s x)
    ≡ released_closed rules s ++ (released_segment rules s.last ++ gone_of rules (begun x ∷ []))
gone_begun rules s x =
    ap (λ bs. bs ++ gone_of rules (begun x ∷ []))
    (flat_map-append (released_segment rules) s.closed (s.last ∷ [])
    ∙ ap (λ bs. released_closed rules s ++ bs) (append-nil (released_segment rules s.last)))
    ∙ append_assoc (released_closed rules s) (released_segment rules s.last) (gone_of rules (begun x ∷ []))
