-- A walk over the octets in plain order.
use Rattle.std.proofs.Common.{◌≡◌, ◌<◌, ◌≤◌, ◌+◌, ℕ, suc, ltb, cond, List, length, set, take, get_or, sum, refl, ap, sym, subst, ◌∙◌, arith, inl, inr}
use Rattle.std.proofs.lemmas.Bool.{cases_lt, le-ltb}
use Rattle.std.proofs.lemmas.List.{length-set, take_all}
use Rattle.std.proofs.Math.ListN.{get_or-eq_default}
use Rattle.amr_guard.proofs.Counts.{turn, next-behind, next_step, sum-bounded}
use Rattle.amr_guard.proofs.Moves.{put_step, take_step}
use Rattle.amr_bits.proofs.Lists.{sum-more}
use Rattle.amr_guard.proofs.Rows.{rank-below, robust-rank}
use Rattle.amr_guard.specs.Sorting.{AreLengths, IsOctet, plain_place}
use Rattle.amr_guard.specs.Walking.{AgreeUpTo, AreNext, GoesTo, StandsAt, next_place}

-- a walk stands behind the first `at` octets
pub record Walks (ls : List ℕ) (f o : ℕ) (places : List ℕ) (at : ℕ) : Type 0 where
  pub stands : StandsAt ls f o places
  pub passed : plain_place ls f o ≡ at

-- before the first of them
no_turn : (n k : ℕ) → n ≡ n + cond (ltb k 0) 1 0
no_turn n k =
    let none : n + 0 ≡ n = omega arith in
    sym (ap (λ t. n + cond t 1 0) (le-ltb k 0 (omega arith)) ∙ none)

pub walks_first : (ls places : List ℕ) → AreNext ls 0 places → Walks ls 0 0 places 0
walks_first ls places h = record {
  stands = record { passed = omega arith; size = h.0; next = λ k few. h.1 k few ∙ no_turn (next_place ls 0 k) k };
  passed = refl;
}

-- while there are more, it stands in a frame
pub in_frame : {ls places : List ℕ} {f o at : ℕ} → Walks ls f o places at → at < sum ls → f < length ls
in_frame {ls} {places} {f} {o} {at} w more = elim (cases_lt f (length ls)) [
  | inl h ↦ h
  | inr h ↦
      let all = ap sum (take_all f ls (omega arith)) in
      let none = get_or-eq_default ls 0 {n = f} (omega arith) in
      absurd (omega (arith, w.passed, w.stands.passed, all, none, more))
]

-- behind the last octet of a frame it stands before the first of the next
pub behind_frame : {ls places : List ℕ} {f o at : ℕ} → Walks ls f o places at → at < sum ls → o ≡ get_or ls f 0
    → Walks ls (f + 1) 0 places at
behind_frame {ls} {places} {f} {o} {at} w more e =
    let inside = in_frame w more in
    let one_more : suc f ≡ f + 1 = omega arith in
    let same = ap (λ k. sum (take k ls)) one_more in
    record {
      stands = record {
        passed = omega arith;
        size = w.stands.size;
        next = λ k few.
            w.stands.next k few ∙ ap (λ n. next_place ls f k + cond (ltb k n) 1 0) e ∙ sym (next-behind ls f k inside)
            ∙ no_turn (next_place ls (f + 1) k) k;
      };
      passed = omega (arith, e, w.passed, same, sum-more ls f inside);
    }

-- the next octet: its place of the robust order, and where the walk stands behind it
pub record Next (ls places : List ℕ) (f o at : ℕ) : Type 0 where
  pub small : o < 60
  pub goes : GoesTo ls at (get_or places o 0)
  pub below : get_or places o 0 < sum ls
  pub few : sum ls ≤ 23040
  pub behind : Walks ls f (o + 1) (set places o (get_or places o 0 + 1)) (at + 1)

pub next_of : {ls places : List ℕ} {f o at : ℕ} → AreLengths ls → Walks ls f o places at → at < sum ls
    → (o ≡ get_or ls f 0 → ⊥) → Next ls places f o at
next_of {ls} {places} {f} {o} {at} lengths w more not_last =
    let inside = in_frame w more in
    let h : o < get_or ls f 0 = omega (arith, w.stands.passed, not_last) in
    let exists : IsOctet ls f o = (inside, h) in
    let ranked = turn ls places f o exists lengths.short w.stands.next in
    let small : o < 60 = omega (arith, h, lengths.short f 0 inside) in
    record {
      small = small;
      goes = record {
        frame = f;
        octet = o;
        exists = exists;
        from = w.passed;
        to = robust-rank ls f o exists ∙ sym
            ranked;
      };
      below = omega (arith, ranked, rank-below ls f o exists);
      few = sum-bounded ls lengths.frames lengths.short;
      behind = record {
        stands = record {
          passed = omega (arith, h);
          size = length-set places o (get_or places o 0 + 1) ∙ w.stands.size;
          next = next_step (next_place ls f) places o (omega (arith, small, w.stands.size)) w.stands.next;
        };
        passed = omega (arith, w.passed);
      };
    }

-- where the next octet goes, and the walk behind it
pub goes_at : {ls places : List ℕ} {f o at place : ℕ} → Walks ls f o places at → GoesTo ls (plain_place ls f o) place
    → GoesTo ls at place
goes_at {ls} {places} {f} {o} {at} {place} w g = subst (λ n. GoesTo ls n place) w.passed g

walked : {ls places then : List ℕ} {f o g q at : ℕ} → Walks ls f o places at → StandsAt ls g q then
    → plain_place ls g q ≡ plain_place ls f o + 1 → Walks ls g q then (at + 1)
walked w stands passed = record { stands = stands; passed = omega (arith, passed, w.passed) }

-- the place of an octet is one of the robust order
pub goes_below : {ls : List ℕ} {at place : ℕ} → GoesTo ls at place → place < sum ls
goes_below {ls} {at} {place} g = omega (
  arith,
  g.to,
  robust-rank ls g.frame g.octet g.exists,
  rank-below ls g.frame
      g.octet g.exists,
)

-- the octet at `at` is put to its place of the robust order
put_at : {ls : List ℕ} {at place : ℕ} (plain out : List ℕ) → GoesTo ls at place → length out ≡ sum ls
    → AgreeUpTo ls plain out at → AgreeUpTo ls plain (set out place (get_or plain at 0)) (at + 1)
put_at {ls} {at} {place} plain out g long done =
    put_step ls plain out g.frame g.octet place at (get_or plain at 0) g.exists
    (sym g.to ∙ robust-rank ls g.frame g.octet g.exists) (sym g.from) refl long done

-- and one is taken from there
take_at : {ls : List ℕ} {at place : ℕ} (out sorted : List ℕ) → GoesTo ls at place → length out ≡ sum ls
    → AgreeUpTo ls out sorted at → AgreeUpTo ls (set out at (get_or sorted place 0)) sorted (at + 1)
take_at {ls} {at} {place} out sorted g long done =
    take_step ls out sorted g.frame g.octet place at (get_or sorted place 0) g.exists
    (sym g.to ∙ robust-rank ls g.frame g.octet g.exists) (sym g.from) refl long done

-- one step of a walk that puts octets to their places, and of one that takes them from there
pub put_on : {ls places then : List ℕ} {f o g q at place : ℕ} (plain out : List ℕ)
    → (length out ≡ sum ls) × Walks ls f o places at × AgreeUpTo ls plain out at
    → GoesTo ls (plain_place ls f o) place → StandsAt ls g q then → plain_place ls g q ≡ plain_place ls f o + 1
    → (length (set out place (get_or plain at 0)) ≡ sum ls) × Walks ls g q then (at + 1)
    × AgreeUpTo ls plain (set out place (get_or plain at 0)) (at + 1)
put_on {at = at} {place = place} plain out h goes stands passed = (
  length-set out place (get_or plain at 0) ∙ h.0,
  walked h.1 stands passed,
  put_at plain out (goes_at h.1 goes) h.0 h.2,
)

pub take_on : {ls places then : List ℕ} {f o g q at place : ℕ} (out sorted : List ℕ)
    → (length out ≡ sum ls) × Walks ls f o places at × AgreeUpTo ls out sorted at
    → GoesTo ls (plain_place ls f o) place → StandsAt ls g q then → plain_place ls g q ≡ plain_place ls f o + 1
    → (length (set out at (get_or sorted place 0)) ≡ sum ls) × Walks ls g q then (at + 1)
    × AgreeUpTo ls (set out at (get_or sorted place 0)) sorted (at + 1)
take_on {at = at} {place = place} out sorted h goes stands passed = (
  length-set out at (get_or sorted place 0) ∙ h.0,
  walked h.1 stands passed,
  take_at out sorted (goes_at h.1 goes) h.0 h.2,
)
