-- What stands in a tray once octets were put behind those that wait, or passed.
use Rattle.std.proofs.Common.{◌≡◌, ℕ, ◌+◌, ◌-◌, ◌≤◌, List, ◌++◌, length, take, drop, sym, ap, ◌∙◌, arith}
use Rattle.std.proofs.lemmas.List.{drop-take, drop-drop, drop-append-le, length-take-le}
use Rattle.std.proofs.lemmas.List.{take-take}
use Rattle.std.proofs.Math.Seq.{take-append-add}
use Rattle.std.specs.Prelude.{slice_range}

-- a part of a list, cut at its end first
part_as_rest : (xs : List ℕ) (i j : ℕ) → i ≤ j → slice_range xs i j ≡ drop i (take j xs)
part_as_rest xs i j h =
    let whole : i + (j - i) ≡ j = omega arith in
    sym (drop-take i (j - i) xs) ∙ ap (λ m. drop i (take m xs)) whole

-- octets that are put stand behind those before
pub put_behind : (old now octets : List ℕ) (from at : ℕ) → from ≤ at → at ≤ length old
    → take (at + length octets) now ≡ take at old ++ octets
    → slice_range now from (at + length octets) ≡ slice_range old from at ++ octets
put_behind old now octets from at h fits e =
    let size : length (take at old) ≡ at = length-take-le at old fits in
    part_as_rest now from (at + length octets) (omega arith) ∙ ap (drop from) e
    ∙ drop-append-le from (take at old) octets (omega (arith, size))
    ∙ ap (λ front. front ++ octets) (sym (part_as_rest old from at h))

-- and so do the first of them
pub front_behind : (old now octets : List ℕ) (from at count : ℕ) → from ≤ at → at ≤ length old
    → count ≤ length octets → take (at + length octets) now ≡ take at old ++ octets
    → slice_range now from (at + count) ≡ slice_range old from at ++ take count octets
front_behind old now octets from at count h fits some e =
    let size : length (take at old) ≡ at = length-take-le at old fits in
    let n : length (take count octets) ≡ count = length-take-le count octets some in
    let front : take (at + count) now ≡ take at old ++ take count octets =
    sym (take-take (at + count) (at + length octets) now (omega (arith, some)))
    ∙ ap (take (at + count)) e ∙ ap (λ m. take (m + count) (take at old ++ octets)) (sym size)
    ∙ take-append-add (take at old) octets count in
    ap (λ m. slice_range now from (at + m)) (sym n)
    ∙ put_behind old now (take count octets) from at h fits (ap (λ m. take (at + m) now) n ∙ front)

-- a part without its first n octets is the part from n further on
pub part_passed : (xs : List ℕ) (i j n : ℕ) → n + i ≤ j
    → drop n (slice_range xs i j) ≡ slice_range xs (i + n) j
part_passed xs i j n fits =
    let split : j - i ≡ n + (j - (i + n)) = omega arith in
    ap (λ m. drop n (take m (drop i xs))) split ∙ drop-take n (j - (i + n)) (drop i xs)
    ∙ ap (take (j - (i + n))) (drop-drop n i xs)
