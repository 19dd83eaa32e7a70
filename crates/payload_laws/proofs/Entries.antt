-- The bits of a table of contents, and which entry is the last.
use Rattle.std.proofs.Common.{◌≡◌, ℕ, zero, suc, ◌+◌, ◌*◌, ◌<◌, Bool, true, false, List, [], ◌∷◌, ◌++◌, length, get_or, refl, ap, arith}
use Rattle.std.proofs.lemmas.List.{length-append}
use Rattle.amr_bits.specs.Bits.{nat}
use Rattle.amr_bits.specs.Layout.{Mark, fixed}
use Rattle.amr_frame.specs.Frames.{Frame, no_data}
use Rattle.spec_payload.specs.Grammar.{entry, table}

-- the bits of an entry
abbrev pub entry_bits : Frame → Bool → List Bool
entry_bits f more = more ∷ nat 4 f.ft ++ f.q ∷ []

-- the bits of a table
abbrev pub table_bits : List Frame → List Bool
table_bits [] = []
table_bits (f ∷ []) = entry_bits f false
table_bits (f ∷ g ∷ fs) = entry_bits f true ++ table_bits (g ∷ fs)

-- whether more entries follow entry k
abbrev pub more_after : List Frame → ℕ → Bool
more_after [] k = false
more_after (f ∷ []) k = false
more_after (f ∷ g ∷ fs) zero = true
more_after (f ∷ g ∷ fs) (suc k) = more_after (g ∷ fs) k

-- frame k
abbrev pub frame_k : List Frame → ℕ → Frame
frame_k fs k = get_or fs k no_data

-- a table without free bits is fixed
pub table_fixed : (fs : List Frame) → table 0 fs ≡ fixed (table_bits fs)
table_fixed [] = refl
table_fixed (f ∷ []) = refl
table_fixed (f ∷ g ∷ fs) = ap (λ (t : List Mark). entry 0 f true ++ t) (table_fixed (g ∷ fs))

-- each entry has six bits
pub length-table : (fs : List Frame) → length (table_bits fs) ≡ 6 * length fs
length-table [] = refl
length-table (f ∷ []) = refl
length-table (f ∷ g ∷ fs) = let e = length-table (g ∷ fs) in omega (arith, length-append (entry_bits f true) (table_bits (g ∷ fs)))

-- more entries follow each but the last
pub more_before : (fs : List Frame) (k : ℕ) → k + 1 < length fs → more_after fs k ≡ true
more_before [] k h = absurd (omega arith)
more_before (f ∷ []) k h = absurd (omega arith)
more_before (f ∷ g ∷ fs) zero h = refl
more_before (f ∷ g ∷ fs) (suc k) h = more_before (g ∷ fs) k (omega arith)

-- none follows the last
pub none_after : (fs : List Frame) (k : ℕ) → k + 1 ≡ length fs → more_after fs k ≡ false
none_after [] k h = refl
none_after (f ∷ []) k h = refl
none_after (f ∷ g ∷ fs) zero h = absurd (omega arith)
none_after (f ∷ g ∷ fs) (suc k) h = none_after (g ∷ fs) k (omega arith)
