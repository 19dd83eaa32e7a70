-- Octets that are moved between the two orders.
use Rattle.std.proofs.Common.{◌≡◌, ℕ, ◌+◌, ◌<◌, ◌≢◌, List, length, set, take, get_or, sum, sym, ap, ◌∙◌, arith, inl, inr}
use Rattle.std.proofs.lemmas.Bool.{cases_lt}
use Rattle.std.proofs.lemmas.List.{ext_get_or, get_or-map, length-map, get_or-set_same, get_or-set_other, take_all}
use Rattle.spec_payload.specs.RobustOrder.{Place, place, robust_order}
use Rattle.amr_guard.specs.Sorting.{IsOctet, plain_place, robust_place, sorted_of, Agree}
use Rattle.amr_guard.specs.Walking.{AgreeUpTo}
use Rattle.amr_guard.proofs.Counts.{rank}
use Rattle.amr_guard.proofs.Plain.{plain-below, plain-one, plain-find}
use Rattle.amr_guard.proofs.Rows.{length-robust, rank-stands, rank-below, rank-find, rank-one, robust-rank}

-- an octet more is put to its place of the robust order
pub put_step : (ls plain out : List ℕ) (f o r t v : ℕ) → IsOctet ls f o → r ≡ rank ls f o → t ≡ plain_place ls f o → v ≡ get_or plain t 0 → length out ≡ sum ls
    → AgreeUpTo ls plain out t → AgreeUpTo ls plain (set out r v) (t + 1)
put_step ls plain out f o r t v oct er et ev long h g q w l =
    elim (cases_lt (plain_place ls g q) t) [
      | inl a ↦ get_or-set_other out r (robust_place ls g q) v 0 (apart a) ∙ h g q w a
      | inr b ↦ here (plain-one ls g q f o w oct (omega (arith, l, b, et)))
    ]
  where
    apart : plain_place ls g q < t → robust_place ls g q ≢ r
    apart a e =
        let one = rank-one ls g q f o w oct (sym (robust-rank ls g q w) ∙ e ∙ er) in
        let same : plain_place ls g q ≡ plain_place ls f o = ap (λ x. plain_place ls x q) one.0 ∙ ap (plain_place ls f) one.1 in
        omega (arith, a, same, et)

    here : (g ≡ f) × (q ≡ o) → get_or (set out r v) (robust_place ls g q) 0 ≡ get_or plain (plain_place ls g q) 0
    here e =
        let at : robust_place ls g q ≡ r = ap (λ x. robust_place ls x q) e.0 ∙ ap (robust_place ls f) e.1 ∙ robust-rank ls f o oct ∙ sym er in
        let from : plain_place ls g q ≡ t = ap (λ x. plain_place ls x q) e.0 ∙ ap (plain_place ls f) e.1 ∙ sym et in
        ap (λ x. get_or (set out r v) x 0) at ∙ get_or-set_same out r v 0 (omega (arith, er, long, rank-below ls f o oct)) ∙ ev ∙ ap (λ x. get_or plain x 0) (sym from)

-- an octet more is taken from there
pub take_step : (ls out sorted : List ℕ) (f o r t v : ℕ) → IsOctet ls f o → r ≡ rank ls f o → t ≡ plain_place ls f o → v ≡ get_or sorted r 0 → length out ≡ sum ls
    → AgreeUpTo ls out sorted t → AgreeUpTo ls (set out t v) sorted (t + 1)
take_step ls out sorted f o r t v oct er et ev long h g q w l =
    elim (cases_lt (plain_place ls g q) t) [
      | inl a ↦ h g q w a ∙ sym (get_or-set_other out t (plain_place ls g q) v 0 (omega (arith, a)))
      | inr b ↦ here (plain-one ls g q f o w oct (omega (arith, l, b, et)))
    ]
  where
    here : (g ≡ f) × (q ≡ o) → get_or sorted (robust_place ls g q) 0 ≡ get_or (set out t v) (plain_place ls g q) 0
    here e =
        let at : robust_place ls g q ≡ r = ap (λ x. robust_place ls x q) e.0 ∙ ap (robust_place ls f) e.1 ∙ robust-rank ls f o oct ∙ sym er in
        let to : plain_place ls g q ≡ t = ap (λ x. plain_place ls x q) e.0 ∙ ap (plain_place ls f) e.1 ∙ sym et in
        ap (λ x. get_or sorted x 0) at ∙ sym (ap (λ x. get_or (set out t v) x 0) to ∙ get_or-set_same out t v 0 (omega (arith, et, long, plain-below ls f o oct)) ∙ ev)

-- all octets are moved
pub agree_all : (ls plain sorted : List ℕ) (t : ℕ) → t ≡ sum ls → AgreeUpTo ls plain sorted t → Agree ls plain sorted
agree_all ls plain sorted t e h f o v = h f o v (omega (arith, e, plain-below ls f o v))

-- what stands at an octet's rank once they are sorted
sorted-at : (ls plain : List ℕ) (f o : ℕ) → IsOctet ls f o → get_or (sorted_of ls plain) (rank ls f o) 0 ≡ get_or plain (plain_place ls f o) 0
sorted-at ls plain f o v =
    let d = place 0 0 in
    let at = λ (p : Place). get_or plain (plain_place ls p.frame p.octet) 0 in
    get_or-map at (robust_order ls) (rank ls f o) d 0 (omega (arith, length-robust ls, rank-below ls f o v)) ∙ ap at (rank-stands ls f o v d)

length-sorted : (ls plain : List ℕ) → length (sorted_of ls plain) ≡ sum ls
length-sorted ls plain = length-map (robust_order ls) (λ (p : Place). get_or plain (plain_place ls p.frame p.octet) 0) ∙ length-robust ls

-- lists that agree are a list and its sorting
pub agree_sorted : (ls plain sorted : List ℕ) → length sorted ≡ sum ls → Agree ls plain sorted → sorted ≡ sorted_of ls plain
agree_sorted ls plain sorted l h =
    ext_get_or 0 sorted (sorted_of ls plain) (l ∙ sym (length-sorted ls plain)) (λ k under.
    let r = rank-find ls k (omega (arith, l, under)) in
    ap (λ x. get_or sorted x 0) (sym r.3 ∙ sym (robust-rank ls r.0 r.1 r.2)) ∙ h r.0 r.1 r.2
    ∙ sym (ap (λ x. get_or (sorted_of ls plain) x 0) (sym r.3) ∙ sorted-at ls plain r.0 r.1 r.2))

-- a list is known from its sorting
pub sorted_one : (ls a b : List ℕ) → length a ≡ sum ls → length b ≡ sum ls → sorted_of ls a ≡ sorted_of ls b → a ≡ b
sorted_one ls a b l m e =
    ext_get_or 0 a b (l ∙ sym m) (λ k under.
    let all : sum (take (length ls) ls) ≡ sum ls = ap sum (take_all (length ls) ls (omega arith)) in
    let r = plain-find ls (length ls) k (omega arith) (omega (arith, l, under, all)) in
    ap (λ x. get_or a x 0) (sym r.3) ∙ sym (sorted-at ls a r.0 r.1 r.2) ∙ ap (λ w. get_or w (rank ls r.0 r.1) 0) e ∙ sorted-at ls b r.0 r.1 r.2 ∙ ap (λ x. get_or b x 0) r.3)
