-- Payloads of every format that are written, and written again.
use Rattle.std.proofs.Common.{◌≡◌, ℕ, false, cond, List, [], length, map, sym, ap, ◌∙◌, arith, inl, inr}
use Rattle.std.proofs.lemmas.List.{length-map}
use Rattle.amr_bits.specs.Bits.{bits_of}
use Rattle.amr_bits.specs.Layout.{fits, settled}
use Rattle.amr_be.proofs.Again.{bits_of_text as packed_bits, not_refused as packed_accepted, same_value as packed_value, undamaged as packed_undamaged}
use Rattle.amr_oa.proofs.Accepting.{none_refuses as aligned_accepted, same_value as aligned_value, undamaged as aligned_undamaged}
use Rattle.amr_toc.specs.declared.view.PayloadView.{PayloadView}
use Rattle.amr_toc.specs.Told.{IsRead, IsRefused}
use Rattle.amr_toc.specs.Viewed.{format_of, octets_of, is_damaged}
use Rattle.spec_payload.specs.declared.refusal.PayloadRefusal.{PayloadRefusal}
use Rattle.amr_oa.proofs.Canonical.{bits_of_text as aligned_bits}
use Rattle.amr_oa.proofs.Returning.{checked_marked}
use Rattle.amr_frame.specs.declared.profile.Profile.{Profile}
use Rattle.amr_frame.specs.Profiles.{IsValid}
use Rattle.amr_payload.specs.Checks.{own_checks}
use Rattle.amr_toc.specs.Cleared.{cleared}
use Rattle.amr_toc.proofs.Marked.{either}
use Rattle.amr_toc.proofs.Settled.{cleared_is, fits_settled}
use Rattle.payload_laws.proofs.Checks.{checks_below}
use Rattle.payload_laws.proofs.Marks.{length-bits_of, fits_length}
use Rattle.payload_laws.proofs.OneValue.{one_value, one_checks}
use Rattle.spec_payload.specs.Grammar.{IsPayload, layout, aligned_layout, packed_layout, text, check_of, checked}
use Rattle.spec_payload.specs.Seen.{seen}
use Rattle.spec_payload.specs.Values.{Value, IsValue}

-- the bits of the canonical octets are those that are written
pub bits_are : (p : Profile) (v : Value) → IsValue p v → bits_of (text p v) ≡ map settled (layout p v (own_checks p v))
bits_are p v h = elim (either p.octet_aligned) [
  | inl aligned ↦ aligned_bits p v aligned h
  | inr packed ↦ packed_bits p v packed
      ∙ ap (λ z. map settled (cond z (aligned_layout p v []) (packed_layout v))) packed
      ∙ sym (ap (λ z. map settled (cond z (aligned_layout p v (own_checks p v)) (packed_layout v))) packed)
]

-- they are a payload of the value
pub is_payload : (p : Profile) (v : Value) → IsValid p → IsValue p v → IsPayload p v (own_checks p v) (text p v)
is_payload p v valid h = record {
  value = h;
  as_many = length-map (checked p v.frames) (check_of p);
  are_octets = checks_below p (checked p v.frames);
  bits = ap (fits (layout p v (own_checks p v))) (bits_are p v h) ∙ fits_settled (layout p v (own_checks p v));
}

-- of no other, and with no other CRCs
pub same_value : (p : Profile) (v w : Value) (checks : List ℕ) → IsValid p → IsValue p v → IsPayload p w checks (text p v) → w ≡ v
same_value p v w checks valid h g = one_value p w v checks (own_checks p v) (text p v) valid g (is_payload p v valid h)

pub same_checks : (p : Profile) (v w : Value) (checks : List ℕ) → IsValid p → IsValue p v → IsPayload p w checks (text p v) → checks ≡ own_checks p v
same_checks p v w checks valid h g = one_checks p w v checks (own_checks p v) (text p v) valid g (is_payload p v valid h)

-- the octets that were said, but for the free bits
pub same_bits : (p : Profile) (v : Value) (octets : List ℕ) → IsValid p → IsPayload p v (own_checks p v) octets → bits_of (text p v) ≡ cleared (layout p v (own_checks p v)) (bits_of octets)
same_bits p v octets valid g = bits_are p v g.value ∙ sym (cleared_is (layout p v (own_checks p v)) (bits_of octets) g.bits)

-- and as many
pub same_size : (p : Profile) (v : Value) (octets : List ℕ) → IsValid p → IsPayload p v (own_checks p v) octets → length (text p v) ≡ length octets
same_size p v octets valid g =
    let a = length-bits_of (text p v) in
    let b = length-bits_of octets in
    let m = ap length (bits_are p v g.value) ∙ length-map (layout p v (own_checks p v)) settled in
    let n = fits_length (layout p v (own_checks p v)) (bits_of octets) g.bits in
    omega arith

-- none of the rules refuses them
pub not_refused : (p : Profile) (v : Value) (why : PayloadRefusal) → IsValid p → IsValue p v → IsRefused p (text p v) why → ⊥
not_refused p v why valid h r = elim (either p.octet_aligned) [
  | inl aligned ↦ aligned_accepted p v why valid aligned h r
  | inr packed ↦ packed_accepted p v why valid packed h r
]

-- what is read of them is the value
pub read_again : (p : Profile) (v w : Value) → IsValid p → IsValue p v → IsRead p (text p v) w → w ≡ v
read_again p v w valid h r = elim (either p.octet_aligned) [
  | inl aligned ↦ aligned_value p v w valid aligned h r
  | inr packed ↦ packed_value p v w valid packed h r
]

-- no frame of their view is damaged
pub undamaged : (view : PayloadView) (v : Value) (k : ℕ) → IsValid (format_of view) → IsValue (format_of view) v → octets_of view ≡ text (format_of view) v → is_damaged view k ≡ false
undamaged view v k valid h e = elim (either (format_of view).octet_aligned) [
  | inl aligned ↦ aligned_undamaged view v k valid aligned h e
  | inr packed ↦ packed_undamaged view k valid packed
]

-- with the CRCs of its frames a value is seen as it is
pub seen_own : (p : Profile) (v : Value) → seen p v (own_checks p v) ≡ v
seen_own p v = λ i. record { cmr = v.cmr; stride = v.stride; index = v.index; frames = checked_marked p v.frames i }
