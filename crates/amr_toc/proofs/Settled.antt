-- Layouts as they are written: free bits are 0, and cleared where they were read.
use Rattle.std.proofs.Common.{◌≡◌, ℕ, zero, suc, ◌+◌, ◌-◌, ◌*◌, Bool, true, false, cond, List, [], ◌∷◌, ◌++◌, length, map, replicate, sym, refl, ap, ◌∙◌, arith, Some, None}
use Rattle.std.proofs.lemmas.List.{length-map, map-append}
use Rattle.amr_bits.specs.Bits.{bits_of, bits_at, filled, octets_for}
use Rattle.amr_bits.specs.Layout.{Mark, fixed, free, padded, fits, settled, same_bit}
use Rattle.amr_bits.proofs.Filled.{bits-whole, gap, gap_fills, length-filled}
use Rattle.amr_bits.proofs.Runs.{run-all}
use Rattle.payload_laws.proofs.Marks.{front_bit, same_bit_is}
use Rattle.amr_toc.specs.Cleared.{cleared}

-- fixed bits are written as they are
pub settled_fixed : (bits : List Bool) → map settled (fixed bits) ≡ bits
settled_fixed [] = refl
settled_fixed (b ∷ bits) = ap (λ (xs : List Bool). b ∷ xs) (settled_fixed bits)

-- free bits are written 0
pub settled_free : (k : ℕ) → map settled (free k) ≡ replicate k false
settled_free zero = refl
settled_free (suc k) = ap (λ (xs : List Bool). false ∷ xs) (settled_free k)

-- bits up to a whole octet
pub settled_padded : (bits : List Bool) → map settled (padded (fixed bits)) ≡ bits ++ replicate (gap bits) false
settled_padded bits =
    let n = length (fixed bits) in
    map-append settled (fixed bits) (free (8 * octets_for n - n))
    ∙ (λ i. settled_fixed bits i ++ settled_free (8 * octets_for n - n) i)
    ∙ ap (λ (m : ℕ). bits ++ replicate (8 * octets_for m - m) false) (length-map bits Some)

-- bits of a layout with the free ones cleared are those that are written
pub cleared_is : (marks : List Mark) (bits : List Bool) → fits marks bits ≡ true → cleared marks bits ≡ map settled marks
cleared_is [] bits e = refl
cleared_is (m ∷ marks) [] e = absurd cc
cleared_is (None ∷ marks) (b ∷ bits) e = ap (λ (xs : List Bool). false ∷ xs) (cleared_is marks bits e)
cleared_is (Some a ∷ marks) (b ∷ bits) e =
    let f = front_bit (Some a) marks b bits e in
    let same : b ≡ a = sym (same_bit_is a b f.0) in
    λ i. same i ∷ cleared_is marks bits f.1 i

-- a bit is itself
same_self : (b : Bool) → same_bit b b ≡ true
same_self true = refl
same_self false = refl

-- what is written has its layout
pub fits_settled : (marks : List Mark) → fits marks (map settled marks) ≡ true
fits_settled [] = refl
fits_settled (None ∷ marks) = fits_settled marks
fits_settled (Some a ∷ marks) = ap (λ z. cond z (fits marks (map settled marks)) false) (same_self a) ∙ fits_settled marks

-- the bits of filled octets
pub bits_of_filled : (bits : List Bool) → bits_of (filled bits) ≡ bits ++ replicate (gap bits) false
bits_of_filled bits =
    let l = length-filled bits in
    let f = gap_fills bits in
    let size : 8 * length (filled bits) ≡ length bits + gap bits = omega arith in
    sym (run-all (filled bits)) ∙ ap (bits_at (filled bits) 0) size ∙ bits-whole bits (gap bits) f
