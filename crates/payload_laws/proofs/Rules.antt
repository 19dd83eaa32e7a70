-- What it says of octets that none of the rules P1 to P10 refuses them, in any format, and how the end of a table is found.
use Rattle.std.proofs.Common.{◌≡◌, ℕ, ◌+◌, ◌*◌, ◌/◌, ◌%◌, ◌<◌, ◌≤◌, Bool, true, false, not, ◌||◌, eqb, ltb, List, [], length, sym, ap, ◌∙◌, arith, refl, Option, Some, None, inl, inr}
use Rattle.std.specs.Prelude.{is_some}
use Rattle.std.specs.Option.{unwrap_or}
use Rattle.std.proofs.lemmas.Bool.{eq-eqb, ltb-false, eqb-false}
use Rattle.std.proofs.lemmas.Bool.Decides.{eqb_tells}
use Rattle.amr_frame.specs.declared.profile.Profile.{Profile}
use Rattle.amr_frame.specs.First.{when}
use Rattle.amr_frame.specs.Profiles.{group_bound}
use Rattle.amr_frame.specs.Tables.{is_reserved}
use Rattle.amr_frame.proofs.FirstLemmas.{first_none, when_none, or_false, or_true, is_none_of, three_none, third}
use Rattle.spec_payload.specs.declared.refusal.PayloadRefusal.{PayloadRefusal}
use Rattle.spec_payload.specs.declared.refusal.PayloadRefusal.TheVariants as why
use Rattle.spec_payload.specs.Reading.{entries, entry_start, entry_fault, ends_table, last_entry, more_at, type_at, types, need, payload_refusal, ill, ilp}
use Rattle.spec_payload.specs.Rules.{where_grouped}
use Rattle.payload_laws.proofs.Ranges.{find_from, first_of_range}

-- F of an entry that doesn't end the table
more_of : (b : Bool) → not b ≡ false → b ≡ true
more_of true e = refl
more_of false e = absurd cc

-- F of the last entry
last_of : (o : Option PayloadRefusal) (b : Bool) → o ≡ None → (is_some o || not b) ≡ true
    → b ≡ false
last_of None true n e = absurd cc
last_of None false n e = refl
last_of (Some x) b n e = absurd cc

-- the table goes on at an entry with F = 1 and nothing wrong
pub going : (o : Option PayloadRefusal) (b : Bool) → o ≡ None → b ≡ true
    → (is_some o || not b) ≡ false
going o b e f = rw (e, f) refl

-- the table ends at an entry with F = 0
pub stopped : (o : Option PayloadRefusal) (b : Bool) → b ≡ false → (is_some o || not b) ≡ true
stopped None b f = rw f refl
stopped (Some x) b f = refl

-- the last entry is the first that ends the table
pub last_is : (p : Profile) (octets : List ℕ) (k : ℕ) → k ≤ p.max_blocks * p.channels
    → ((j : ℕ) → j < k → ends_table p octets j ≡ false) → ends_table p octets k ≡ true
    → last_entry p octets ≡ k
last_is p octets k h none hit = ap (λ (o : Option ℕ). unwrap_or o 0) (find_from (ends_table p octets) 0 (p.max_blocks * p.channels + 1) k (omega arith) (omega arith) (λ j l x. none j x) hit)

-- the table ends at the latest one entry past the most
stops_at_most : (p : Profile) (octets : List ℕ)
    → ends_table p octets (p.max_blocks * p.channels) ≡ true
stops_at_most p octets =
    let most = p.max_blocks * p.channels in
    or_true (is_some (entry_fault p octets most)) (not (more_at p octets most))
    (third (ltb (8 * length octets) (entry_start p (most + 1))) (is_reserved p.codec (type_at p octets most)) (eqb most most) (why.TocUnended most) (why.ReservedType most (type_at p octets most)) why.TooManyBlocks (eq-eqb most most refl))

-- a rule for formats that interleave, where the format does
grouped_none : {X : Type 0} (o : Option ℕ) (rule : ℕ → Option X) (most : ℕ)
    → where_grouped o rule ≡ None → o ≡ Some most → rule most ≡ None
grouped_none None rule most e f = absurd cc
grouped_none (Some m) rule most e f = let h : m ≡ most = cc in ap rule (sym h) ∙ e

-- and one that doesn't hold wherever the format does
pub not_grouped : {X : Type 0} (o : Option ℕ) (rule : ℕ → Option X)
    → ((most : ℕ) → o ≡ Some most → rule most ≡ None) → where_grouped o rule ≡ None
not_grouped None rule h = refl
not_grouped (Some most) rule h = h most refl

-- below the next, and not equal
not_equal : (a b : ℕ) → a < b + 1 → (a ≡ b → ⊥) → a < b
not_equal a b l n = elim (eqb_tells a b) [ inl t ↦ absurd (n t.1) | inr t ↦ omega (arith, t.1) ]

-- a number that isn't 0
pub above : (n : ℕ) → (n ≡ 0 → ⊥) → 0 < n
above n h = omega (arith, h)

-- the interleaving octet is there, its index is below the stride, and the group is small enough
pub record Groups (octets : List ℕ) (blocks most : ℕ) : Type 0 where
  pub whole : 2 ≤ length octets
  pub index : ilp octets ≤ ill octets
  pub group : blocks * (ill octets + 1) ≤ most

-- what the rules ask of octets
pub record Good (p : Profile) (octets : List ℕ) : Type 0 where
  pub some : 0 < length octets
  pub goes : (k : ℕ) → k + 1 < entries p octets → more_at p octets k ≡ true
  pub ends : (k : ℕ) → k + 1 ≡ entries p octets → more_at p octets k ≡ false
  pub groups : (most : ℕ) → group_bound p.interleaving ≡ Some most
      → Groups octets (entries p octets / p.channels) most
  pub known : (k : ℕ) → k < entries p octets → is_reserved p.codec (type_at p octets k) ≡ false
  pub few : entries p octets ≤ p.max_blocks * p.channels
  pub rows : entries p octets % p.channels ≡ 0
  pub exact : need p (types p octets) ≡ length octets

-- what each rule that doesn't hold says
pub good : (p : Profile) (octets : List ℕ) → payload_refusal p octets ≡ None → Good p octets
good p octets e =
    let have = length octets in
    let fts = types p octets in
    let n = entries p octets in
    let most = p.max_blocks * p.channels in
    let group = group_bound p.interleaving in
    let found = first_of_range (ends_table p octets) 0 (most + 1) most (omega arith) (omega arith) (stops_at_most p octets) in
    let at = found.at in
    let last : last_entry p octets ≡ at = ap (λ (o : Option ℕ). unwrap_or o 0) found.is in
    let short = λ (m : ℕ). when (ltb have 2) why.HeaderShort in
    let past = λ (m : ℕ). when (ltb (ill octets) (ilp octets)) (why.IndexAboveLength (ill octets) (ilp octets)) in
    let large = λ (m : ℕ). when (ltb m (n / p.channels * (ill octets + 1))) (why.GroupTooLarge (n / p.channels) (ill octets + 1)) in
    let not_empty = first_none (when (eqb have 0) why.Empty) _ e in
    let has_header = first_none (where_grouped group short) _ not_empty.1 in
    let index_fits = first_none (where_grouped group past) _ has_header.1 in
    let faultless_end = first_none (entry_fault p octets (last_entry p octets)) _ index_fits.1 in
    let whole = first_none (when (ltb 0 (n % p.channels)) (why.ChannelRest n)) _ faultless_end.1 in
    let small_group = first_none (where_grouped group large) _ whole.1 in
    let not_short = first_none (when (ltb have (need p fts)) (why.BodyShort (need p fts) have)) _ small_group.1 in
    let not_long = first_none (when (ltb (need p fts) have) (why.BodyLong (need p fts) have)) [] not_short.1 in
    let rest = ltb-false 0 (n % p.channels) (when_none (ltb 0 (n % p.channels)) (why.ChannelRest n) whole.0) in
    let enough = ltb-false have (need p fts) (when_none (ltb have (need p fts)) (why.BodyShort (need p fts) have) not_short.0) in
    let no_more = ltb-false (need p fts) have (when_none (ltb (need p fts) have) (why.BodyLong (need p fts) have) not_long.0) in
    let at_last : entry_fault p octets at ≡ None = ap (entry_fault p octets) (sym last) ∙ faultless_end.0 in
    let before : (k : ℕ) → k < at → (is_some (entry_fault p octets k) ≡ false) × (not (more_at p octets k) ≡ false) = λ k l. or_false (is_some (entry_fault p octets k)) (not (more_at p octets k)) (found.none k (omega arith) l) in
    let faultless : (k : ℕ) → k < at + 1 → entry_fault p octets k ≡ None = λ k l. elim (eqb_tells k at) [ inl t ↦ ap (entry_fault p octets) t.1 ∙ at_last | inr t ↦ is_none_of (entry_fault p octets k) (before k (omega (arith, t.1))).0 ] in
    let three = λ (k : ℕ) (l : k < at + 1). three_none (ltb (8 * have) (entry_start p (k + 1))) (is_reserved p.codec (type_at p octets k)) (eqb k most) (why.TocUnended k) (why.ReservedType k (type_at p octets k)) why.TooManyBlocks (faultless k l) in
    let below : at < most = let t = eqb-false at most (three at (omega arith)).2 in let hi = found.high in not_equal at most (omega arith) t in
    record {
      some = above have (eqb-false have 0 (when_none (eqb have 0) why.Empty not_empty.0));
      goes = λ k l. more_of (more_at p octets k) (before k (omega arith)).1;
      ends = λ k l. let z : k ≡ at = omega arith in ap (more_at p octets) z ∙ last_of (entry_fault p octets at) (more_at p octets at) at_last found.passes;
      groups = λ m is. record {
        whole = ltb-false have 2 (when_none (ltb have 2) why.HeaderShort (grouped_none group short m has_header.0 is));
        index = ltb-false (ill octets) (ilp octets) (when_none (ltb (ill octets) (ilp octets)) (why.IndexAboveLength (ill octets) (ilp octets)) (grouped_none group past m index_fits.0 is));
        group = ltb-false m (n / p.channels * (ill octets + 1)) (when_none (ltb m (n / p.channels * (ill octets + 1))) (why.GroupTooLarge (n / p.channels) (ill octets + 1)) (grouped_none group large m small_group.0 is));
      };
      known = λ k l. (three k (omega arith)).1;
      few = omega arith;
      rows = omega arith;
      exact = omega arith;
    }
