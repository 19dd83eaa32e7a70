-- The first rule that an octet-aligned payload breaks, by the table that is read of it.
use Rattle.std.proofs.Common.{◌≡◌, ℕ, ◌+◌, ◌*◌, ◌/◌, ◌%◌, ◌≤◌, Bool, true, false, cond, eqb, ltb, List, [], ◌∷◌, ◌++◌, length, refl, ap, ◌∙◌, sym, subst, Option, Some, None}
use Rattle.std.specs.Prelude.{is_some, ◌⊎◌}
use Rattle.amr_bits.specs.Bits.{bits_at}
use Rattle.amr_frame.specs.declared.profile.Profile.{Profile}
use Rattle.amr_frame.specs.First.{when, first}
use Rattle.amr_frame.specs.Profiles.{group_bound}
use Rattle.amr_frame.proofs.FirstLemmas.{first_none}
use Rattle.spec_payload.specs.declared.refusal.PayloadRefusal.{PayloadRefusal}
use Rattle.spec_payload.specs.declared.refusal.PayloadRefusal.TheVariants as why
use Rattle.spec_payload.specs.Rules.{where_grouped, empty, header_short, index_above}
use Rattle.spec_payload.specs.Reading.{entries, types, entry_fault, last_entry, head_bits, entry_bits, need, ill, ilp}
use Rattle.amr_toc.specs.Fitting.{misfit}
use Rattle.amr_toc.specs.declared.entry.Entry.{Entry}
use Rattle.amr_toc.specs.Lists.{toc_at, types_of}
use Rattle.amr_toc.specs.Payloads.{IsAligned}
use Rattle.amr_toc.specs.Table.{table_of, table_refusal, fault_of, last_of}
use Rattle.amr_toc.specs.Told.{IsAccepted, IsRefused}
use Rattle.amr_toc.proofs.Shown.{entries_are, types_are}
use Rattle.amr_toc.proofs.InPayload.{last_same, last_fault, table_same}
use Rattle.amr_oa.specs.Steps.{header_refusal, group_refusal}

-- the first answer of two lists, one behind the other
first_front : (xs ys : List (Option PayloadRefusal)) (r : PayloadRefusal) → first xs ≡ Some r → first (xs ++ ys) ≡ Some r
first_front [] ys r e = absurd cc
first_front (None ∷ xs) ys r e = first_front xs ys r e
first_front (Some x ∷ xs) ys r e = e

first_behind : (xs ys : List (Option PayloadRefusal)) → first xs ≡ None → first (xs ++ ys) ≡ first ys
first_behind [] ys e = refl
first_behind (None ∷ xs) ys e = first_behind xs ys e
first_behind (Some x ∷ xs) ys e = absurd cc

-- what the rules say in three steps: before the table, of the table, and behind it
record Rules (p : Profile) (octets : List ℕ) (width : ℕ) (bits : List Bool) : Type 0 where
  pub header : (r : PayloadRefusal) → header_refusal p octets ≡ Some r → IsRefused p octets r
  pub table : (r : PayloadRefusal) → header_refusal p octets ≡ None → table_refusal p width bits ≡ Some r → IsRefused p octets r
  pub listed : table_refusal p width bits ≡ None → table_of p width bits ≡ toc_at p octets
  pub group : (r : PayloadRefusal) → header_refusal p octets ≡ None → table_refusal p width bits ≡ None → group_refusal p octets (entries p octets / p.channels) ≡ Some r → IsRefused p octets r
  pub unfit : (r : PayloadRefusal) → header_refusal p octets ≡ None → table_refusal p width bits ≡ None → group_refusal p octets (entries p octets / p.channels) ≡ None → misfit (need p (types p octets)) (length octets) ≡ Some r → IsRefused p octets r
  pub none : header_refusal p octets ≡ None → table_refusal p width bits ≡ None → group_refusal p octets (entries p octets / p.channels) ≡ None → misfit (need p (types p octets)) (length octets) ≡ None → IsAccepted p octets

-- an answer by itself
first_one : (o : Option PayloadRefusal) → first (o ∷ []) ≡ o
first_one None = refl
first_one (Some x) = refl

-- of an octet-aligned format: where the table begins, and how wide its entries are
head_is : (p : Profile) → p.octet_aligned ≡ true → 8 * cond (is_some p.interleaving) 2 1 ≡ head_bits p
head_is p aligned = by_header (is_some p.interleaving) ∙ sym (ap (λ b. cond b (cond (is_some p.interleaving) 16 8) 4) aligned)
  where
    by_header : (b : Bool) → 8 * cond b 2 1 ≡ cond b 16 8
    by_header true = refl
    by_header false = refl

width_is : (p : Profile) → p.octet_aligned ≡ true → 8 ≡ entry_bits p
width_is p aligned = sym (ap (λ b. cond b 8 6) aligned)

module _ (p : Profile) (octets : List ℕ) (n : ℕ) (fits : head_bits p + n ≤ 8 * length octets) (enough : (head_bits p + n ≡ 8 * length octets) ⊎ (3080 ≤ n)) (few : p.max_blocks * p.channels ≤ 384) where
  abbrev front : List (Option PayloadRefusal)
  front =
      when (eqb (length octets) 0) why.Empty
      ∷ where_grouped (group_bound p.interleaving) (λ most. when (ltb (length octets) 2) why.HeaderShort)
      ∷ where_grouped (group_bound p.interleaving) (λ most. when (ltb (ill octets) (ilp octets)) (why.IndexAboveLength (ill octets) (ilp octets))) ∷ []

  abbrev middle : List (Option PayloadRefusal)
  middle = entry_fault p octets (last_entry p octets) ∷ when (ltb 0 (entries p octets % p.channels)) (why.ChannelRest (entries p octets)) ∷ []

  abbrev large : Option PayloadRefusal
  large = group_refusal p octets (entries p octets / p.channels)

  abbrev end : List (Option PayloadRefusal)
  end = when (ltb (length octets) (need p (types p octets))) (why.BodyShort (need p (types p octets)) (length octets)) ∷ when (ltb (need p (types p octets)) (length octets)) (why.BodyLong (need p (types p octets)) (length octets)) ∷ []

  abbrev bits : List Bool
  bits = bits_at octets (head_bits p) n

  -- the rules of the table
  same : table_refusal p (entry_bits p) bits ≡ first middle
  same = λ i. first (last_fault p octets n fits enough few i ∷ when (ltb 0 ((last_same p octets n fits enough few i + 1) % p.channels)) (why.ChannelRest (last_same p octets n fits enough few i + 1)) ∷ [])

  rules_in : Rules p octets (entry_bits p) bits
  rules_in = record {
    header = λ r e. record { first = first_front front (middle ++ large ∷ end) r e };
    table = λ r h e. record { first = first_behind front (middle ++ large ∷ end) h ∙ first_front middle (large ∷ end) r (sym same ∙ e) };
    listed = λ e. table_same p octets n fits enough few (first_none (fault_of p (entry_bits p) bits (last_of p (entry_bits p) bits)) _ e).0;
    group = λ r h e g. record { first = first_behind front (middle ++ large ∷ end) h ∙ first_behind middle (large ∷ end) (sym same ∙ e) ∙ first_front (large ∷ []) end r (first_one large ∙ g) };
    unfit = λ r h e g m. record { first = first_behind front (middle ++ large ∷ end) h ∙ first_behind middle (large ∷ end) (sym same ∙ e) ∙ first_behind (large ∷ []) end (first_one large ∙ g) ∙ m };
    none = λ h e g m. record { none = first_behind front (middle ++ large ∷ end) h ∙ first_behind middle (large ∷ end) (sym same ∙ e) ∙ first_behind (large ∷ []) end (first_one large ∙ g) ∙ m };
  }

-- the rules of each octet-aligned format, of which the first n bits behind the header are read for the table
rules : (p : Profile) (octets : List ℕ) (bits : List Bool) (n : ℕ) → p.octet_aligned ≡ true → bits ≡ bits_at octets (8 * cond (is_some p.interleaving) 2 1) n → 8 * cond (is_some p.interleaving) 2 1 + n ≤ 8 * length octets → (8 * cond (is_some p.interleaving) 2 1 + n ≡ 8 * length octets) ⊎ (3080 ≤ n) → p.max_blocks * p.channels ≤ 384 → Rules p octets 8 bits
rules p octets bits n aligned is fits enough few =
    let h = head_is p aligned in
    let w = width_is p aligned in
    let b : bits ≡ bits_at octets (head_bits p) n = is ∙ ap (λ s. bits_at octets s n) h in
    let r : Rules p octets (entry_bits p) (bits_at octets (head_bits p) n) = rules_in p octets n (subst (λ s. s + n ≤ 8 * length octets) h fits) (subst (λ s. (s + n ≡ 8 * length octets) ⊎ (3080 ≤ n)) h enough) few in
    subst (λ bs. Rules p octets 8 bs) (sym b) (subst (λ v. Rules p octets v (bits_at octets (head_bits p) n)) (sym w) r)

-- what is told of octets by their header, by a table that was read of the bits behind it, and by the octets that it needs
pub record Answers (p : Profile) (octets : List ℕ) (bits : List Bool) : Type 0 where
  pub table : (r : PayloadRefusal) → table_refusal p 8 bits ≡ Some r → IsRefused p octets r
  pub group : (es : List Entry) (r : PayloadRefusal) → table_refusal p 8 bits ≡ None → es ≡ table_of p 8 bits → group_refusal p octets (length es / p.channels) ≡ Some r → IsRefused p octets r
  pub unfit : (es : List Entry) (n : ℕ) (r : PayloadRefusal) → table_refusal p 8 bits ≡ None → es ≡ table_of p 8 bits → group_refusal p octets (length es / p.channels) ≡ None → n ≡ need p (types_of es) → misfit n (length octets) ≡ Some r → IsRefused p octets r
  pub accepted : (es : List Entry) (n : ℕ) → table_refusal p 8 bits ≡ None → es ≡ table_of p 8 bits → group_refusal p octets (length es / p.channels) ≡ None → n ≡ need p (types_of es) → misfit n (length octets) ≡ None → IsAccepted p octets × (es ≡ toc_at p octets)

pub answers : {p : Profile} {octets : List ℕ} {bits : List Bool} {n : ℕ} → IsAligned p → header_refusal p octets ≡ None → bits ≡ bits_at octets (8 * cond (is_some p.interleaving) 2 1) n → 8 * cond (is_some p.interleaving) 2 1 + n ≤ 8 * length octets → (8 * cond (is_some p.interleaving) 2 1 + n ≡ 8 * length octets) ⊎ (3080 ≤ n) → p.max_blocks * p.channels ≤ 384 → Answers p octets bits
answers {p} {octets} {bits} {n} format header is fits enough few =
    let r = rules p octets bits n format.aligned is fits enough few in
    let listed = λ (es : List Entry) (e : table_refusal p 8 bits ≡ None) (t : es ≡ table_of p 8 bits). t ∙ r.listed e in
    let blocks = λ (es : List Entry) (t : es ≡ toc_at p octets). ap (λ m. group_refusal p octets (m / p.channels)) (entries_are p octets es t) in
    let size = λ (es : List Entry) (n : ℕ) (t : es ≡ toc_at p octets) (needs : n ≡ need p (types_of es)). ap (λ (m : ℕ). misfit m (length octets)) (sym (needs ∙ ap (need p) (types_are p octets es t))) in
    record {
      table = λ why e. r.table why header e;
      group = λ es why e t g. r.group why header e (sym (blocks es (listed es e t)) ∙ g);
      unfit = λ es k why e t g needs m. r.unfit why header e (sym (blocks es (listed es e t)) ∙ g) (size es k (listed es e t) needs ∙ m);
      accepted = λ es k e t g needs m. (r.none header e (sym (blocks es (listed es e t)) ∙ g) (size es k (listed es e t) needs ∙ m), listed es e t);
    }

-- what stands before the table refuses by itself
pub header_first : (p : Profile) (octets : List ℕ) (r : PayloadRefusal) → header_refusal p octets ≡ Some r → IsRefused p octets r
header_first p octets r e = record { first = first_front (empty (length octets) ∷ header_short (group_bound p.interleaving) (length octets) ∷ index_above (group_bound p.interleaving) (ill octets) (ilp octets) ∷ []) _ r e }
