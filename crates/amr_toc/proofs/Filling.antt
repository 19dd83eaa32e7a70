-- One octet that bits fill, by itself.
use Rattle.std.proofs.Common.{◌≡◌, ℕ, ◌-◌, ◌*◌, ◌<◌, Bool, false, List, ◌++◌, length, take, drop, replicate, get_or, min, ap, ◌∙◌, sym, arith, inl, inr}
use Rattle.std.proofs.lemmas.Bool.{cases_lt}
use Rattle.std.proofs.lemmas.List.{length-drop, length-take-le, take_all, take-append-le, drop-append-le}
use Rattle.std.proofs.lemmas.List.FromFn.{get_or-map-range_with_len}
use Rattle.amr_bits.specs.Bits.{number, part, filled, octets_for}
use Rattle.amr_bits.proofs.Filled.{octet_of}

-- the eight bits of an octet and those of a run that begins with it
eight : (xs : List Bool) (n : ℕ) → n ≡ min (length xs) 8 → take 8 (take n xs ++ replicate 7 false) ≡ take 8 (xs ++ replicate 7 false)
eight xs n e =
    elim (cases_lt (length xs) 8) [
      | inl few ↦ ap (λ ys. take 8 (ys ++ replicate 7 false)) (take_all n xs (omega arith))
      | inr many ↦
          let is : n ≡ 8 = omega arith in
          let l : length (take 8 xs) ≡ 8 = length-take-le 8 xs (omega arith) in
          ap (λ m. take 8 (take m xs ++ replicate 7 false)) is
          ∙ take-append-le 8 (take 8 xs) (replicate 7 false) (omega arith)
          ∙ take_all 8 (take 8 xs) (omega arith)
          ∙ sym (take-append-le 8 xs (replicate 7 false) (omega arith))
    ]

-- an octet that a part of the bits fills by itself
pub octet_is : (bits : List Bool) (o n : ℕ) → 8 * o < length bits → n ≡ min (length bits - 8 * o) 8 → get_or (filled (part (8 * o) n bits)) 0 0 ≡ get_or (filled bits) o 0
octet_is bits o n h e =
    let a = part (8 * o) n bits in
    let d = length-drop (8 * o) bits in
    let l : length a ≡ n = length-take-le n (drop (8 * o) bits) (omega arith) in
    let m : n ≡ min (length (drop (8 * o) bits)) 8 = e ∙ ap (λ x. min x 8) (sym d) in
    get_or-map-range_with_len (octet_of a) 0 (octets_for (length a)) 0 0 0 (omega arith) (omega arith)
    ∙ ap number (eight (drop (8 * o) bits) n m ∙ ap (take 8) (sym (drop-append-le (8 * o) bits (replicate 7 false) (omega arith))))
    ∙ sym (get_or-map-range_with_len (octet_of bits) 0 (octets_for (length bits)) o o 0 (omega arith) (omega arith))
