-- Each octet of each frame has one place in plain order, and each place has one octet.
use Rattle.std.proofs.Common.{◌≡◌, ℕ, zero, suc, ◌+◌, ◌-◌, ◌<◌, ◌≤◌, List, length, take, get_or, sum, ap, arith, inl, inr}
use Rattle.std.proofs.lemmas.Bool.{cases_lt, cases_eq, cases_order}
use Rattle.std.proofs.lemmas.List.{take_all}
use Rattle.amr_bits.proofs.Lists.{sum-more}
use Rattle.amr_guard.specs.Sorting.{IsOctet, plain_place}

-- an octet of an earlier frame stands before the frame
plain-under : (ls : List ℕ) (f o g : ℕ) → IsOctet ls f o → f < g → g ≤ length ls → plain_place ls f o < sum (take g ls)
plain-under ls f o zero v l h = absurd (omega arith)
plain-under ls f o (suc g) v l h =
    let more = sum-more ls g (omega arith) in
    elim (cases_eq f g) [
      | inl e ↦ let here : sum (take f ls) + get_or ls f 0 ≡ sum (take g ls) + get_or ls g 0 = ap (λ k. sum (take k ls) + get_or ls k 0) e in omega (arith, v.1, here, more)
      | inr ne ↦ let rec = plain-under ls f o g v (omega (arith, ne)) (omega arith) in omega (arith, rec, more)
    ]

pub plain-below : (ls : List ℕ) (f o : ℕ) → IsOctet ls f o → plain_place ls f o < sum ls
plain-below ls f o v = let l = plain-under ls f o (length ls) v v.0 (omega arith) in let e = ap sum (take_all (length ls) ls (omega arith)) in omega (arith, l, e)

-- two octets with one place are one
pub plain-one : (ls : List ℕ) (f o g q : ℕ) → IsOctet ls f o → IsOctet ls g q → plain_place ls f o ≡ plain_place ls g q → (f ≡ g) × (o ≡ q)
plain-one ls f o g q v w e =
    elim (cases_order f g) [
      | inl s ↦ let t = ap (λ k. sum (take k ls)) s in (s, omega (arith, e, t))
      | inr d ↦ absurd (elim d [
        | inl l ↦ let t = plain-under ls f o g v l (omega (arith, w.0)) in omega (arith, e, t)
        | inr l ↦ let t = plain-under ls g q f w l (omega (arith, v.0)) in omega (arith, e, t)
      ])
    ]

-- each place is one of an octet
pub plain-find : (ls : List ℕ) (n j : ℕ) → n ≤ length ls → j < sum (take n ls) → (f : ℕ) × (o : ℕ) × IsOctet ls f o × (plain_place ls f o ≡ j)
plain-find ls zero j h l = absurd (omega arith)
plain-find ls (suc n) j h l =
    elim (cases_lt j (sum (take n ls))) [
      | inl t ↦ plain-find ls n j (omega arith) t
      | inr t ↦ (n, j - sum (take n ls), (omega arith, omega (arith, l, t, sum-more ls n (omega arith))), omega (arith, t))
    ]
