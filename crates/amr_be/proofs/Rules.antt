-- The first rule that a bandwidth-efficient payload breaks, by the table that is read of it.
use Rattle.std.proofs.Common.{◌≡◌, ℕ, ◌+◌, ◌*◌, ◌%◌, ◌<◌, ◌≤◌, Bool, true, false, eqb, ltb, List, [], ◌∷◌, length, map, refl, ap, ◌∙◌, sym, subst, arith, Option, Some, None}
use Rattle.std.specs.Prelude.{sum, ◌⊎◌}
use Rattle.std.proofs.lemmas.Bool.{eqb-false, ne_eqb, le-ltb}
use Rattle.std.proofs.lemmas.List.{length-map}
use Rattle.amr_bits.specs.Bits.{bits_at, octets_for}
use Rattle.amr_frame.specs.declared.codec.Codec.{Codec}
use Rattle.amr_frame.specs.declared.profile.Profile.{Profile}
use Rattle.amr_frame.specs.First.{when, first}
use Rattle.amr_frame.specs.Profiles.{IsValid}
use Rattle.amr_frame.specs.Tables.{bits_in}
use Rattle.amr_be.specs.Needs.{need_by}
use Rattle.amr_toc.specs.declared.entry.Entry.{Entry}
use Rattle.amr_toc.specs.Fitting.{misfit}
use Rattle.amr_toc.specs.Lists.{types_of, toc_at}
use Rattle.amr_toc.specs.Payloads.{IsPacked}
use Rattle.amr_toc.specs.Table.{table_of, table_refusal, fault_of, last_of}
use Rattle.amr_toc.specs.Told.{IsAccepted, IsRefused}
use Rattle.amr_toc.proofs.InPayload.{last_same, last_fault, table_same}
use Rattle.amr_toc.proofs.Shown.{types_same}
use Rattle.amr_toc.proofs.Telling.{exactly}
use Rattle.amr_frame.proofs.FirstLemmas.{first_none}
use Rattle.payload_laws.proofs.Rules.{above}
use Rattle.payload_laws.proofs.Formats.{plain, plain_of, plain_is}
use Rattle.spec_payload.specs.declared.refusal.PayloadRefusal.{PayloadRefusal}
use Rattle.spec_payload.specs.declared.refusal.PayloadRefusal.TheVariants as why
use Rattle.spec_payload.specs.Reading.{entries, types, entry_fault, last_entry, need}

-- the first of the rules, where one holds
at_table : (e : Bool) (x r : PayloadRefusal) (o t : Option PayloadRefusal) (os : List (Option PayloadRefusal)) → e ≡ false → first (o ∷ t ∷ []) ≡ Some r → first (when e x ∷ None ∷ None ∷ o ∷ t ∷ os) ≡ Some r
at_table true x r o t os h f = absurd cc
at_table false x r None None os h f = absurd cc
at_table false x r None (Some y) os h f = f
at_table false x r (Some y) t os h f = f

at_misfit : (e : Bool) (x r : PayloadRefusal) (o t : Option PayloadRefusal) (os : List (Option PayloadRefusal)) → e ≡ false → first (o ∷ t ∷ []) ≡ None → first os ≡ Some r → first (when e x ∷ None ∷ None ∷ o ∷ t ∷ None ∷ os) ≡ Some r
at_misfit e x r o t os h f g =
    let a = first_none o (t ∷ []) f in
    let b = first_none t [] a.1 in
    rw (h, a.0, b.0) g

at_none : (e d l : Bool) (x z y : PayloadRefusal) (o t : Option PayloadRefusal) → e ≡ false → first (o ∷ t ∷ []) ≡ None → d ≡ false → l ≡ false → first (when e x ∷ None ∷ None ∷ o ∷ t ∷ None ∷ when d z ∷ when l y ∷ []) ≡ None
at_none e d l x z y o t h f g k =
    let a = first_none o (t ∷ []) f in
    let b = first_none t [] a.1 in
    rw (h, a.0, b.0, g, k) refl

-- the rules of a payload, of which the first n bits behind the header are read for the table
record Rules (p : Profile) (octets : List ℕ) (n : ℕ) : Type 0 where
  pub table : (r : PayloadRefusal) → 0 < length octets → table_refusal p 6 (bits_at octets 4 n) ≡ Some r → IsRefused p octets r
  pub listed : table_refusal p 6 (bits_at octets 4 n) ≡ None → table_of p 6 (bits_at octets 4 n) ≡ toc_at p octets
  pub unfit : (r : PayloadRefusal) → 0 < length octets → table_refusal p 6 (bits_at octets 4 n) ≡ None → misfit (need p (types p octets)) (length octets) ≡ Some r → IsRefused p octets r
  pub none : 0 < length octets → table_refusal p 6 (bits_at octets 4 n) ≡ None → need p (types p octets) ≡ length octets → IsAccepted p octets
  pub size : (es : List Entry) → es ≡ toc_at p octets → need_by p.codec es ≡ need p (types p octets)

module _ (codec : Codec) (c m : ℕ) (strict : Bool) (modes : ℕ) (octets : List ℕ) (n : ℕ) (fits : 4 + n ≤ 8 * length octets) (enough : (4 + n ≡ 8 * length octets) ⊎ (3080 ≤ n)) (few : m * c ≤ 384) where
  abbrev p : Profile
  p = plain codec c m strict modes

  abbrev bits : List Bool
  bits = bits_at octets 4 n

  -- the rules of the table
  same : table_refusal p 6 bits ≡ first (entry_fault p octets (last_entry p octets) ∷ when (ltb 0 (entries p octets % c)) (why.ChannelRest (entries p octets)) ∷ [])
  same = λ i. first (last_fault p octets n fits enough few i ∷ when (ltb 0 ((last_same p octets n fits enough few i + 1) % c)) (why.ChannelRest (last_same p octets n fits enough few i + 1)) ∷ [])

  -- there is an octet
  some : 0 < length octets → eqb (length octets) 0 ≡ false
  some h = ne_eqb (length octets) 0 (λ e. omega arith)

  rules_plain : Rules p octets n
  rules_plain =
      let fts = types p octets in
      let need_is = need p fts in
      let have = length octets in
      let fault = entry_fault p octets (last_entry p octets) in
      let rest = when (ltb 0 (entries p octets % c)) (why.ChannelRest (entries p octets)) in
      record {
        table = λ r h e. record { first = at_table (eqb have 0) why.Empty r fault rest _ (some h) (sym same ∙ e) };
        listed = λ e. table_same p octets n fits enough few (first_none (fault_of p 6 bits (last_of p 6 bits)) _ e).0;
        unfit = λ r h e l. record { first = at_misfit (eqb have 0) why.Empty r fault rest _ (some h) (sym same ∙ e) l };
        none = λ h e l. record { none = at_none (eqb have 0) (ltb have need_is) (ltb need_is have) why.Empty (why.BodyShort need_is have) (why.BodyLong need_is have) fault rest (some h) (sym same ∙ e) (le-ltb have need_is (omega arith)) (le-ltb need_is have (omega arith)) };
        size = λ es e.
            let ts : types_of es ≡ fts = ap types_of e ∙ types_same p octets in
            let l : length es ≡ length fts = sym (length-map es (λ (x : Entry). x.ft)) ∙ ap length ts in
            let s : sum (map (bits_in codec) (types_of es)) ≡ sum (map (bits_in codec) fts) = ap (λ t. sum (map (bits_in codec) t)) ts in
            ap octets_for (omega arith);
      }

-- the rules of each bandwidth-efficient format
rules : (p : Profile) (octets : List ℕ) (n : ℕ) → IsValid p → p.octet_aligned ≡ false → 4 + n ≤ 8 * length octets → (4 + n ≡ 8 * length octets) ⊎ (3080 ≤ n) → p.max_blocks * p.channels ≤ 384 → Rules p octets n
rules p octets n valid packed fits enough few =
    subst (λ q. Rules q octets n) (plain_is p (plain_of p valid packed)) (rules_plain p.codec p.channels p.max_blocks p.strict p.modes octets n fits enough few)

-- what is told of octets by a table that was read of the bits behind the header, and by the octets that it needs
pub record Answers (p : Profile) (octets : List ℕ) (bits : List Bool) : Type 0 where
  pub table : (r : PayloadRefusal) → table_refusal p 6 bits ≡ Some r → IsRefused p octets r
  pub unfit : (es : List Entry) (n : ℕ) (r : PayloadRefusal) → table_refusal p 6 bits ≡ None → es ≡ table_of p 6 bits → n ≡ need_by p.codec es → misfit n (length octets) ≡ Some r → IsRefused p octets r
  pub accepted : (es : List Entry) (n : ℕ) → table_refusal p 6 bits ≡ None → es ≡ table_of p 6 bits → n ≡ need_by p.codec es → misfit n (length octets) ≡ None → IsAccepted p octets × (es ≡ toc_at p octets)

pub answers : {p : Profile} {octets : List ℕ} {bits : List Bool} {n : ℕ} → IsPacked p → eqb (length octets) 0 ≡ false → bits ≡ bits_at octets 4 n → 4 + n ≤ 8 * length octets → (4 + n ≡ 8 * length octets) ⊎ (3080 ≤ n) → p.max_blocks * p.channels ≤ 384 → Answers p octets bits
answers {p} {octets} {bits} {n} format not_empty is fits enough few =
    let some : 0 < length octets = above (length octets) (eqb-false (length octets) 0 not_empty) in
    let r = rules p octets n format.valid format.packed fits enough few in
    let none = λ (e : table_refusal p 6 bits ≡ None). ap (table_refusal p 6) (sym is) ∙ e in
    let listed = λ (es : List Entry) (e : table_refusal p 6 bits ≡ None) (t : es ≡ table_of p 6 bits). t ∙ ap (table_of p 6) is ∙ r.listed (none e) in
    record {
      table = λ why e. r.table why some (ap (table_refusal p 6) (sym is) ∙ e);
      unfit = λ es k why e t needs m. r.unfit why some (none e) (ap (λ (j : ℕ). misfit j (length octets)) (sym (r.size es (listed es e t)) ∙ sym needs) ∙ m);
      accepted = λ es k e t needs m. (r.none some (none e) (sym (r.size es (listed es e t)) ∙ sym needs ∙ exactly k (length octets) m), listed es e t);
    }
