-- The table of contents in the octets of a payload is the table at the front of the bits behind the header.
use Rattle.std.proofs.Common.{◌≡◌, ℕ, zero, suc, ◌+◌, ◌*◌, ◌<◌, ◌≤◌, Bool, true, false, cond, not, ◌||◌, eqb, ltb, List, [], ◌∷◌, length, map, get_or, refl, ap, ◌∙◌, sym, arith, Option, Some, None, inl, inr}
use Rattle.std.specs.Prelude.{is_some, find, ◌⊎◌}
use Rattle.std.specs.Option.{unwrap_or}
use Rattle.std.specs.List.{range_with_len}
use Rattle.std.proofs.lemmas.Bool.{cases_lt, lt-ltb, le-ltb, ltb-false}
use Rattle.std.proofs.Math.Nat.{mul-le-mul_right}
use Rattle.amr_bits.specs.Bits.{number, bit_at, bits_at}
use Rattle.amr_bits.proofs.Runs.{length-run, run-get, run-part}
use Rattle.amr_frame.specs.declared.profile.Profile.{Profile}
use Rattle.amr_frame.specs.First.{when, first}
use Rattle.amr_frame.specs.Tables.{is_reserved}
use Rattle.spec_payload.specs.declared.refusal.PayloadRefusal.{PayloadRefusal}
use Rattle.spec_payload.specs.declared.refusal.PayloadRefusal.TheVariants as why
use Rattle.spec_payload.specs.Reading.{head_bits, entry_bits, type_at, more_at, quality_at, entry_fault, ends_table, last_entry}
use Rattle.amr_frame.proofs.FirstLemmas.{first_none, when_none}
use Rattle.payload_laws.proofs.Ranges.{first_of_range}
use Rattle.amr_toc.proofs.Ends.{ends_at_most}
use Rattle.amr_toc.specs.Lists.{entry_in, toc_at}
use Rattle.amr_toc.specs.Table.{more_of, type_of, entry_of, fault_of, ends_at, last_of, table_of}

-- the same first rule before two lists of rules
same_first : (b c : Bool) (x : PayloadRefusal) (os ps : List (Option PayloadRefusal)) → b ≡ c → (b ≡ false → first os ≡ first ps) → first (when b x ∷ os) ≡ first (when c x ∷ ps)
same_first true true x os ps e h = refl
same_first true false x os ps e h = absurd cc
same_first false true x os ps e h = absurd cc
same_first false false x os ps e h = h refl

-- the same end, where F is the same at an entry without a fault
same_end : (o r : Option PayloadRefusal) (a b : Bool) → o ≡ r → (o ≡ None → a ≡ b) → (is_some o || not a) ≡ (is_some r || not b)
same_end None r a b e h = rw (← e) (ap not (h refl))
same_end (Some x) r a b e h = rw (← e) refl

-- an entry has at least six bits
six : (b : Bool) → 6 ≤ cond b 8 6
six true = omega arith
six false = omega arith

-- maps of functions that agree in a range
pub map_alike : {X : Type 0} (f g : ℕ → X) (a n : ℕ) → ((k : ℕ) → a ≤ k → k < a + n → f k ≡ g k) → map f (range_with_len a n) ≡ map g (range_with_len a n)
map_alike f g a zero h = refl
map_alike f g a (suc n) h =
    let e = h a (omega arith) (omega arith) in
    λ i. e i ∷ map_alike f g (a + 1) n (λ k l m. h k (omega arith) (omega arith)) i

-- the first of a range to pass one of two tests that agree there
find_alike : (q r : ℕ → Bool) (a n : ℕ) → ((k : ℕ) → a ≤ k → k < a + n → q k ≡ r k) → find q (range_with_len a n) ≡ find r (range_with_len a n)
find_alike q r a zero h = refl
find_alike q r a (suc n) h =
    λ i. cond (h a (omega arith) (omega arith) i) (Some a) (find_alike q r (a + 1) n (λ k l m. h k (omega arith) (omega arith)) i)

-- the greatest table has 385 entries, one too many
greatest : (b : Bool) (k : ℕ) → k ≤ 384 → (k + 1) * cond b 8 6 ≤ 3080
greatest true k h = omega arith
greatest false k h = omega arith

module _ (p : Profile) (octets : List ℕ) (n : ℕ) (fits : head_bits p + n ≤ 8 * length octets) (enough : (head_bits p + n ≡ 8 * length octets) ⊎ (3080 ≤ n)) (few : p.max_blocks * p.channels ≤ 384) where
  abbrev h : ℕ
  h = head_bits p

  abbrev w : ℕ
  w = entry_bits p

  abbrev bits : List Bool
  bits = bits_at octets (head_bits p) n

  -- F, type and Q of a whole entry
  more_same : (k : ℕ) → (k + 1) * entry_bits p ≤ n → more_of w bits k ≡ more_at p octets k
  more_same k l = let s = six p.octet_aligned in run-get octets h n (k * w) (omega arith)

  type_same : (k : ℕ) → (k + 1) * entry_bits p ≤ n → type_of w bits k ≡ type_at p octets k
  type_same k l =
      let s = six p.octet_aligned in
      let e : h + (k * w + 1) ≡ h + k * w + 1 = omega arith in
      ap number (run-part octets h (k * w + 1) 4 n (omega arith)) ∙ ap (λ z. number (bits_at octets z 4)) e

  quality_same : (k : ℕ) → (k + 1) * entry_bits p ≤ n → get_or bits (k * w + 5) false ≡ quality_at p octets k
  quality_same k l =
      let s = six p.octet_aligned in
      let e : h + (k * w + 5) ≡ h + k * w + 5 = omega arith in
      run-get octets h n (k * w + 5) (omega arith) ∙ ap (bit_at octets) e

  -- whether an entry is whole
  short_same : (k : ℕ) → k ≤ 384 → ltb (length bits) ((k + 1) * w) ≡ ltb (8 * length octets) (h + (k + 1) * w)
  short_same k most =
      let l = length-run octets h n in
      let g = greatest p.octet_aligned k most in
      elim (cases_lt n ((k + 1) * w)) [
        | inl t ↦ elim enough [
          | inl all ↦ lt-ltb (length bits) ((k + 1) * w) (omega arith) ∙ sym (lt-ltb (8 * length octets) (h + (k + 1) * w) (omega arith))
          | inr long ↦ absurd (omega arith)
        ]
        | inr t ↦ le-ltb (length bits) ((k + 1) * w) (omega arith) ∙ sym (le-ltb (8 * length octets) (h + (k + 1) * w) (omega arith))
      ]

  -- an entry that isn't cut off is whole
  not_short : (k : ℕ) → ltb (length bits) ((k + 1) * w) ≡ false → (k + 1) * entry_bits p ≤ n
  not_short k e = let l = length-run octets h n in let f = ltb-false (length bits) ((k + 1) * w) e in omega arith

  -- what is wrong at an entry
  fault_same : (k : ℕ) → k ≤ 384 → fault_of p w bits k ≡ entry_fault p octets k
  fault_same k most =
      same_first (ltb (length bits) ((k + 1) * w)) (ltb (8 * length octets) (h + (k + 1) * w)) (why.TocUnended k)
      (when (is_reserved p.codec (type_of w bits k)) (why.ReservedType k (type_of w bits k)) ∷ when (eqb k (p.max_blocks * p.channels)) why.TooManyBlocks ∷ [])
      (when (is_reserved p.codec (type_at p octets k)) (why.ReservedType k (type_at p octets k)) ∷ when (eqb k (p.max_blocks * p.channels)) why.TooManyBlocks ∷ [])
      (short_same k most)
      (λ e. ap (λ t. first (when (is_reserved p.codec t) (why.ReservedType k t) ∷ when (eqb k (p.max_blocks * p.channels)) why.TooManyBlocks ∷ [])) (type_same k (not_short k e)))

  -- an entry without a fault is whole
  whole_of : (k : ℕ) → fault_of p w bits k ≡ None → (k + 1) * entry_bits p ≤ n
  whole_of k e = not_short k (when_none (ltb (length bits) ((k + 1) * w)) (why.TocUnended k) (first_none (when (ltb (length bits) ((k + 1) * w)) (why.TocUnended k)) _ e).0)

  -- where the table ends
  ends_same : (k : ℕ) → k ≤ 384 → ends_at p w bits k ≡ ends_table p octets k
  ends_same k most = same_end (fault_of p w bits k) (entry_fault p octets k) (more_of w bits k) (more_at p octets k) (fault_same k most) (λ e. more_same k (whole_of k e))

  pub last_same : last_of p w bits ≡ last_entry p octets
  last_same = ap (λ (o : Option ℕ). unwrap_or o 0) (find_alike (ends_at p w bits) (ends_table p octets) 0 (p.max_blocks * p.channels + 1) (λ k l m. ends_same k (omega arith)))

  -- the last entry is at most one too many
  last_few : last_of p w bits ≤ 384
  last_few =
      let most = p.max_blocks * p.channels in
      let found = first_of_range (ends_at p w bits) 0 (most + 1) most (omega arith) (omega arith) (ends_at_most p w bits) in
      let is : last_of p w bits ≡ found.at = ap (λ (o : Option ℕ). unwrap_or o 0) found.is in
      let high = found.high in omega arith

  -- what is wrong at the last entry
  pub last_fault : fault_of p w bits (last_of p w bits) ≡ entry_fault p octets (last_entry p octets)
  last_fault = fault_same (last_of p w bits) last_few ∙ ap (entry_fault p octets) last_same

  -- the entries, where nothing is wrong
  pub table_same : fault_of p w bits (last_of p w bits) ≡ None → table_of p w bits ≡ toc_at p octets
  table_same e =
      let last = last_of p w bits in
      let all : (last + 1) * entry_bits p ≤ n = whole_of last e in
      map_alike (entry_of w bits) (entry_in p octets) 0 (last + 1) (λ k l m.
      let below : (k + 1) * entry_bits p ≤ (last + 1) * entry_bits p = mul-le-mul_right (entry_bits p) (omega arith) in
      let each : (k + 1) * entry_bits p ≤ n = omega arith in
      (λ i. record { ft = type_same k each i; q = quality_same k each i }))
      ∙ ap (λ z. map (entry_in p octets) (range_with_len 0 (z + 1))) last_same
