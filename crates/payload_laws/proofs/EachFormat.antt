-- The reading by places and the grammar agree in each valid format.
use Rattle.std.proofs.Common.{◌≡◌, ℕ, false, List, [], sym, refl, ap, ◌∙◌, subst, Option, Some, None, Ok, Err, Result, inl, inr}
use Rattle.std.specs.Prelude.{◌⊎◌, ◌↔◌, IsSome, is_some}
use Rattle.amr_bits.specs.Bits.{AreOctets}
use Rattle.amr_frame.specs.declared.profile.Profile.{Profile}
use Rattle.amr_frame.specs.Profiles.{IsValid}
use Rattle.spec_payload.specs.declared.refusal.PayloadRefusal.{PayloadRefusal}
use Rattle.spec_payload.specs.Grammar.{IsPayload}
use Rattle.spec_payload.specs.Reading.{payload_refusal, types, value_at, checks_at, checks_start, checks_count, read_as}
use Rattle.spec_payload.specs.Seen.{seen}
use Rattle.spec_payload.specs.Values.{Value}
use Rattle.payload_laws.specs.Seen.{IsSeenAs}
use Rattle.payload_laws.proofs.AlignedLayout.{accepted as aligned_accepted, spelled as aligned_spelled, taken_below}
use Rattle.payload_laws.proofs.Formats.{plain_of, plain_is, aligned_is, channels_of, either_way}
use Rattle.payload_laws.proofs.OneValue.{one_value, one_checks}
use Rattle.payload_laws.proofs.PackedLayout.{accepted as packed_accepted, spelled as packed_spelled}
use Rattle.payload_laws.proofs.Seeing.{seen_none}

-- what is in the grammar isn't refused
pub not_refused : (p : Profile) (v : Value) (checks octets : List ℕ) → IsValid p
    → IsPayload p v checks octets → payload_refusal p octets ≡ None
not_refused p v checks octets valid h = either_way p
    (λ is. subst (λ q. IsPayload q v checks octets → payload_refusal q octets ≡ None) (aligned_is p is)
    (aligned_accepted p.codec p.channels p.crc p.sorting p.interleaving p.max_blocks p.strict p.modes octets (channels_of p valid) v checks) h)
    (λ packed. subst (λ q. IsPayload q v checks octets → payload_refusal q octets ≡ None) (plain_is p (plain_of p valid packed))
    (packed_accepted p.codec p.channels p.max_blocks p.strict p.modes octets (channels_of p valid) v checks) h)

-- what isn't refused is in the grammar, with the value and the CRCs that are read, where these are octets
in_grammar : (p : Profile) (octets : List ℕ) → IsValid p → AreOctets (checks_at p octets)
    → payload_refusal p octets ≡ None → IsPayload p (value_at p octets) (checks_at p octets) octets
in_grammar p octets valid small none = either_way p
    (λ is. subst (λ q. AreOctets (checks_at q octets) → payload_refusal q octets ≡ None → IsPayload q (value_at q octets) (checks_at q octets) octets) (aligned_is p is)
    (aligned_spelled p.codec p.channels p.crc p.sorting p.interleaving p.max_blocks p.strict p.modes octets (channels_of p valid)) small none)
    (λ packed. subst (λ q. payload_refusal q octets ≡ None → IsPayload q (value_at q octets) (checks_at q octets) octets) (plain_is p (plain_of p valid packed))
    (packed_spelled p.codec p.channels p.max_blocks p.strict p.modes octets (channels_of p valid)) none)

-- the CRCs of octets are octets
checks_small : (p : Profile) (octets : List ℕ) → AreOctets octets → AreOctets (checks_at p octets)
checks_small p octets small = taken_below octets (checks_start p (types p octets)) 0 (checks_count p (types p octets)) small

pub in_grammar_of : (p : Profile) (octets : List ℕ) → IsValid p → AreOctets octets
    → payload_refusal p octets ≡ None → IsPayload p (value_at p octets) (checks_at p octets) octets
in_grammar_of p octets valid small none = in_grammar p octets valid (checks_small p octets small) none

-- the value and the CRCs are those that are read, since there is one value and one list of CRCs
value_is : (p : Profile) (v : Value) (checks octets : List ℕ) → IsValid p
    → AreOctets (checks_at p octets) → IsPayload p v checks octets → value_at p octets ≡ v
value_is p v checks octets valid small h =
    one_value p (value_at p octets) v (checks_at p octets) checks octets valid (in_grammar p octets valid small (not_refused p v checks octets valid h)) h

pub value_of : (p : Profile) (v : Value) (checks octets : List ℕ) → IsValid p → AreOctets octets
    → IsPayload p v checks octets → value_at p octets ≡ v
value_of p v checks octets valid small h = value_is p v checks octets valid (checks_small p octets small) h

pub checks_of : (p : Profile) (v : Value) (checks octets : List ℕ) → IsValid p → AreOctets octets
    → IsPayload p v checks octets → checks_at p octets ≡ checks
checks_of p v checks octets valid small h =
    one_checks p (value_at p octets) v (checks_at p octets) checks octets valid (in_grammar_of p octets valid small (not_refused p v checks octets valid h)) h

-- whether a rule holds
rules : (o : Option PayloadRefusal) → (o ≡ None) ⊎ ((r : PayloadRefusal) × (o ≡ Some r))
rules None = inl refl
rules (Some r) = inr (r, refl)

-- where no rule holds, the answer is what is seen
read_where_none : (p : Profile) (octets : List ℕ) → payload_refusal p octets ≡ None
    → read_as p octets ≡ Ok (seen p (value_at p octets) (checks_at p octets))
read_where_none p octets e = rw e refl

-- where one holds, the answer is the first
read_where_some : (p : Profile) (octets : List ℕ) (r : PayloadRefusal)
    → payload_refusal p octets ≡ Some r → read_as p octets ≡ Err r
read_where_some p octets r e = rw e refl

-- an answer is one value
ok_is : (v w : Value) (a : Result Value PayloadRefusal) → a ≡ Ok v → a ≡ Ok w → v ≡ w
ok_is v w a e f = let h : Ok v ≡ Ok w = sym e ∙ f in cc

-- octets are read as a value exactly where the grammar has them so
seen_exactly : (p : Profile) (w : Value) (octets : List ℕ) → IsValid p
    → AreOctets (checks_at p octets) → (read_as p octets ≡ Ok w) ↔ IsSeenAs p w octets
seen_exactly p w octets valid small = (to, from)
  where
    from : IsSeenAs p w octets → read_as p octets ≡ Ok w
    from h =
        let n = not_refused p h.value h.checks octets valid h.payload in
        let g = in_grammar p octets valid small n in
        let v = one_value p (value_at p octets) h.value (checks_at p octets) h.checks octets valid g h.payload in
        let c = one_checks p (value_at p octets) h.value (checks_at p octets) h.checks octets valid g h.payload in
        read_where_none p octets n ∙ (λ i. Ok (seen p (v i) (c i))) ∙ ap Ok h.as_seen

    to : read_as p octets ≡ Ok w → IsSeenAs p w octets
    to e = elim (rules (payload_refusal p octets)) [
      | inl n ↦ record {
        value = value_at p octets;
        checks = checks_at p octets;
        payload = in_grammar p octets valid small n;
        as_seen = ok_is (seen p (value_at p octets) (checks_at p octets)) w (read_as p octets) (read_where_none p octets n) e;
      }
      | inr r ↦ absurd (let h : Err r.0 ≡ Ok w = sym (read_where_some p octets r.0 r.1) ∙ e in cc)
    ]

pub read_exactly : (p : Profile) (w : Value) (octets : List ℕ) → IsValid p → AreOctets octets
    → (read_as p octets ≡ Ok w) ↔ IsSeenAs p w octets
read_exactly p w octets valid small = seen_exactly p w octets valid (checks_small p octets small)

-- octets are in the grammar, or a rule refuses them
is_either : (p : Profile) (octets : List ℕ) → IsValid p → AreOctets (checks_at p octets)
    → IsPayload p (value_at p octets) (checks_at p octets) octets ⊎ IsSome (payload_refusal p octets)
is_either p octets valid small =
    elim (rules (payload_refusal p octets)) [
      | inl n ↦ inl (in_grammar p octets valid small n)
      | inr r ↦ inr (ap is_some r.1)
    ]

pub either : (p : Profile) (octets : List ℕ) → IsValid p → AreOctets octets
    → IsPayload p (value_at p octets) (checks_at p octets) octets ⊎ IsSome (payload_refusal p octets)
either p octets valid small = is_either p octets valid (checks_small p octets small)

-- never both
pub not_both : (p : Profile) (v : Value) (checks octets : List ℕ) → IsValid p
    → IsPayload p v checks octets → IsSome (payload_refusal p octets) → ⊥
not_both p v checks octets valid h s = not_there (payload_refusal p octets) (not_refused p v checks octets valid h) s
  where
    not_there : (o : Option PayloadRefusal) → o ≡ None → IsSome o → ⊥
    not_there None e t = absurd cc
    not_there (Some r) e t = absurd cc

-- no CRCs are read of a bandwidth-efficient payload, so all of this holds of it for any numbers
no_checks_at : (p : Profile) (octets : List ℕ) → IsValid p → p.octet_aligned ≡ false
    → [] ≡ checks_at p octets
no_checks_at p octets valid packed = subst (λ q. [] ≡ checks_at q octets) (plain_is p (plain_of p valid packed)) refl

no_checks_small : (p : Profile) (octets : List ℕ) → IsValid p → p.octet_aligned ≡ false
    → AreOctets (checks_at p octets)
no_checks_small p octets valid packed = subst AreOctets (no_checks_at p octets valid packed) tt

pub packed_value : (p : Profile) (v : Value) (checks octets : List ℕ) → IsValid p
    → p.octet_aligned ≡ false → IsPayload p v checks octets → value_at p octets ≡ v
packed_value p v checks octets valid packed h = value_is p v checks octets valid (no_checks_small p octets valid packed) h

pub packed_grammar : (p : Profile) (octets : List ℕ) → IsValid p → p.octet_aligned ≡ false
    → payload_refusal p octets ≡ None → IsPayload p (value_at p octets) [] octets
packed_grammar p octets valid packed none =
    subst (λ cs. IsPayload p (value_at p octets) cs octets) (sym (no_checks_at p octets valid packed)) (in_grammar p octets valid (no_checks_small p octets valid packed) none)

-- what is seen of it is the value that is read
packed_seen : (p : Profile) (octets : List ℕ) → IsValid p → p.octet_aligned ≡ false
    → seen p (value_at p octets) (checks_at p octets) ≡ value_at p octets
packed_seen p octets valid packed = ap (seen p (value_at p octets)) (sym (no_checks_at p octets valid packed)) ∙ seen_none p (value_at p octets)

pub packed_exactly : (p : Profile) (v : Value) (octets : List ℕ) → IsValid p
    → p.octet_aligned ≡ false → (read_as p octets ≡ Ok v) ↔ IsPayload p v [] octets
packed_exactly p v octets valid packed = (to, from)
  where
    from : IsPayload p v [] octets → read_as p octets ≡ Ok v
    from h = (seen_exactly p v octets valid (no_checks_small p octets valid packed)).1 (record { value = v; checks = []; payload = h; as_seen = seen_none p v })

    to : read_as p octets ≡ Ok v → IsPayload p v [] octets
    to e = elim (rules (payload_refusal p octets)) [
      | inl n ↦ let s : value_at p octets ≡ v = sym (packed_seen p octets valid packed) ∙ ok_is (seen p (value_at p octets) (checks_at p octets)) v (read_as p octets) (read_where_none p octets n) e in
          subst (λ w. IsPayload p w [] octets) s (packed_grammar p octets valid packed n)
      | inr r ↦ absurd (let h : Err r.0 ≡ Ok v = sym (read_where_some p octets r.0 r.1) ∙ e in cc)
    ]

pub packed_either : (p : Profile) (octets : List ℕ) → IsValid p → p.octet_aligned ≡ false
    → IsPayload p (value_at p octets) [] octets ⊎ IsSome (payload_refusal p octets)
packed_either p octets valid packed =
    subst (λ cs. IsPayload p (value_at p octets) cs octets ⊎ IsSome (payload_refusal p octets)) (sym (no_checks_at p octets valid packed)) (is_either p octets valid (no_checks_small p octets valid packed))
