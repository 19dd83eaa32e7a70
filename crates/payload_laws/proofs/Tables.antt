-- A table of contents in octets: what it says of each entry, and that it stands where the entries do.
use Rattle.std.proofs.Common.{◌≡◌, ℕ, zero, suc, ◌+◌, ◌<◌, ◌≤◌, Bool, true, false, List, [], ◌∷◌, ◌++◌, length, map, take, drop, get_or, sym, refl, ap, ◌∙◌, arith}
use Rattle.std.specs.List.{range_with_len}
use Rattle.std.proofs.lemmas.List.{length-append}
use Rattle.amr_bits.specs.Bits.{nat, number, bit_at, bits_at, number_at}
use Rattle.amr_bits.specs.Layout.{fixed, free}
use Rattle.amr_bits.proofs.Numbers.{nat-number}
use Rattle.amr_bits.proofs.Places.{number_at-lt}
use Rattle.amr_frame.specs.declared.profile.Profile.{Profile}
use Rattle.amr_frame.specs.Frames.{Frame}
use Rattle.spec_payload.specs.Grammar.{entry, table}
use Rattle.spec_payload.specs.Reading.{type_at, more_at, quality_at, frame_at, entry_start}
use Rattle.payload_laws.proofs.Entries.{entry_bits, more_after, frame_k}
use Rattle.payload_laws.proofs.Marks.{number_is}
use Rattle.payload_laws.proofs.Pieces.{Stands, stands_at, both_stand, parts_stand, fixed_stands, fixed_is, free_stands, length-free}

-- four bits spell a number that has them, below 16
pub four_at : (octets : List ℕ) (s : ℕ) → nat 4 (number_at octets s 4) ≡ bits_at octets s 4
four_at octets s = nat-number (bits_at octets s 4) 4 refl

pub four_below : (octets : List ℕ) (s : ℕ) → number_at octets s 4 < 16
four_below octets s = number_at-lt octets s 4

-- four fixed bits are the number that they are of
pub four_is : (octets : List ℕ) (n s : ℕ) → n < 16 → Stands octets s (fixed (nat 4 n))
    → number_at octets s 4 ≡ n
four_is octets n s l h = ap number (fixed_is octets (nat 4 n) s h) ∙ number_is 4 n l

-- what an entry says
pub entry_says : (octets : List ℕ) (gap : ℕ) (f : Frame) (more : Bool) (s : ℕ) → f.ft ≤ 15
    → Stands octets s (entry gap f more)
    → (bit_at octets s ≡ more) × (number_at octets (s + 1) 4 ≡ f.ft)
entry_says octets gap f more s l h =
    let r = fixed_is octets (entry_bits f more) s (parts_stand octets (fixed (entry_bits f more)) (free gap) s h).0 in (
      ap (λ (t : List Bool). get_or t 0 false) r,
      ap (λ (t : List Bool). number (take 4 (drop 1 t))) r ∙ number_is 4 f.ft (omega arith),
    )

-- an entry stands where the frame is read that it is of
pub entry_stands : (p : Profile) (octets : List ℕ) (gap : ℕ) (fts : List ℕ) (k : ℕ) (more : Bool)
    → get_or fts k 0 ≡ type_at p octets k → more_at p octets k ≡ more
    → Stands octets (entry_start p k) (entry gap (frame_at p octets fts k) more)
entry_stands p octets gap fts k more t e =
    let s = entry_start p k in
    let five : s + 5 ≡ s + 1 + 1 + 1 + 1 + 1 = omega arith in
    let ts : nat 4 (get_or fts k 0) ≡ bits_at octets (s + 1) 4 = ap (nat 4) t ∙ four_at octets (s + 1) in
    let q : quality_at p octets k ≡ bit_at octets (s + 1 + 1 + 1 + 1 + 1) = ap (bit_at octets) five in
    let bits : entry_bits (frame_at p octets fts k) more ≡ bits_at octets s 6 = λ i. sym e i ∷ (ts i ++ q i ∷ []) in
    both_stand octets (fixed (entry_bits (frame_at p octets fts k) more)) (free gap) s (s + 6) refl (fixed_stands octets (entry_bits (frame_at p octets fts k) more) s 6 bits) (free_stands octets gap (s + 6))

module _ (octets : List ℕ) (gap : ℕ) where
  -- each entry has six bits and the gap behind them
  length-entry : (f : Frame) (more : Bool) → length (entry gap f more) ≡ 6 + gap
  length-entry f more = length-append (fixed (entry_bits f more)) (free gap) ∙ ap (λ z. 6 + z) (length-free gap)

  -- where the entries begin that stand behind one another
  abbrev pub Next : (ℕ → ℕ) → Type 0
  Next at = (k : ℕ) → at (suc k) ≡ at k + (6 + gap)

  -- the place behind a table
  pub behind_table : (fs : List Frame) (at : ℕ → ℕ) → Next at
      → at (length fs) ≡ at 0 + length (table gap fs)
  behind_table [] at next = omega arith
  behind_table (f ∷ []) at next = next 0 ∙ ap (λ z. at 0 + z) (sym (length-entry f false))
  behind_table (f ∷ g ∷ fs) at next =
      let rest = behind_table (g ∷ fs) (λ k. at (suc k)) (λ k. next (suc k)) in
      let one = next 0 in
      let l = length-entry f true in
      let all = length-append (entry gap f true) (table gap (g ∷ fs)) in
      omega arith

  -- each entry of a table
  pub entry_of : (fs : List Frame) (at : ℕ → ℕ) → Next at → Stands octets (at 0) (table gap fs)
      → (k : ℕ) → k < length fs → Stands octets (at k) (entry gap (frame_k fs k) (more_after fs k))
  entry_of [] at next h k l = absurd (omega arith)
  entry_of (f ∷ []) at next h zero l = h
  entry_of (f ∷ []) at next h (suc k) l = absurd (omega arith)
  entry_of (f ∷ g ∷ fs) at next h zero l = (parts_stand octets (entry gap f true) (table gap (g ∷ fs)) (at 0) h).0
  entry_of (f ∷ g ∷ fs) at next h (suc k) l =
      let r = parts_stand octets (entry gap f true) (table gap (g ∷ fs)) (at 0) h in
      let to : at 0 + length (entry gap f true) ≡ at 1 = ap (λ z. at 0 + z) (length-entry f true) ∙ sym (next 0) in
      entry_of (g ∷ fs) (λ j. at (suc j)) (λ j. next (suc j)) (stands_at octets (table gap (g ∷ fs)) (at 0 + length (entry gap f true)) (at 1) to r.1) k (omega arith)

  -- a table stands where each of its entries does
  pub table_stands : (F : ℕ → Frame) (at : ℕ → ℕ) → Next at → (a b : ℕ)
      → ((k : ℕ) → a ≤ k → k + 1 < a + b → Stands octets (at k) (entry gap (F k) true))
      → ((k : ℕ) → k + 1 ≡ a + b → Stands octets (at k) (entry gap (F k) false))
      → Stands octets (at a) (table gap (map F (range_with_len a b)))
  table_stands F at next a zero y n = refl
  table_stands F at next a (suc zero) y n = n a (omega arith)
  table_stands F at next a (suc (suc b)) y n =
      let one = y a (omega arith) (omega arith) in
      let rest = table_stands F at next (a + 1) (suc b) (λ k l h. y k (omega arith) (omega arith)) (λ k h. n k (omega arith)) in
      let to : at (a + 1) ≡ at a + length (entry gap (F a) true) = ap at (omega arith) ∙ next a ∙ ap (λ z. at a + z) (sym (length-entry (F a) true)) in
      both_stand octets (entry gap (F a) true) (table gap (map F (range_with_len (a + 1) (suc b)))) (at a) (at (a + 1)) to one rest
