-- Payloads that are written and read, and read and written again.
use Rattle.std.proofs.Common.{◌≡◌, ℕ, true, false, cond, List, [], length, map, sym, ap, ◌∙◌, arith, Some, None}
use Rattle.std.proofs.lemmas.List.{length-map}
use Rattle.amr_bits.specs.Bits.{bits_of}
use Rattle.amr_bits.specs.Layout.{fits, settled}
use Rattle.amr_be.proofs.Canonical.{settled_layout, text_is}
use Rattle.amr_frame.specs.declared.profile.Profile.{Profile}
use Rattle.amr_frame.specs.Profiles.{IsValid}
use Rattle.amr_toc.proofs.Settled.{cleared_is, fits_settled, bits_of_filled}
use Rattle.amr_toc.specs.Cleared.{cleared}
use Rattle.amr_toc.specs.declared.view.PayloadView.{PayloadView}
use Rattle.amr_toc.specs.Told.{IsRead, IsRefused}
use Rattle.amr_toc.specs.Viewed.{format_of, is_damaged}
use Rattle.payload_laws.proofs.EachFormat.{not_refused as accepted, packed_exactly}
use Rattle.payload_laws.proofs.Marks.{length-bits_of, fits_length}
use Rattle.payload_laws.proofs.Formats.{plain_of}
use Rattle.payload_laws.proofs.Orders.{fails_first}
use Rattle.payload_laws.proofs.OneValue.{one_value}
use Rattle.payload_laws.proofs.Whole.{whole}
use Rattle.spec_payload.specs.declared.refusal.PayloadRefusal.{PayloadRefusal}
use Rattle.spec_payload.specs.Grammar.{IsPayload, layout, text, checked}
use Rattle.spec_payload.specs.Reading.{payload_refusal}
use Rattle.spec_payload.specs.Values.{Value, IsValue}

-- the bits of the canonical octets are those that are written
pub bits_of_text : (p : Profile) (v : Value) → p.octet_aligned ≡ false → bits_of (text p v) ≡ map settled (layout p v [])
bits_of_text p v packed = ap bits_of (text_is p v packed) ∙ bits_of_filled (whole v) ∙ sym (settled_layout p v [] packed)

-- they are a payload of the value
pub is_payload : (p : Profile) (v : Value) → IsValid p → p.octet_aligned ≡ false → IsValue p v → IsPayload p v [] (text p v)
is_payload p v valid packed h = record {
  value = h;
  as_many = ap (λ z. length (cond z (checked (record p { crc = true }) v.frames) [])) (sym (plain_of p valid packed).crc);
  are_octets = tt;
  bits = ap (fits (layout p v [])) (bits_of_text p v packed) ∙ fits_settled (layout p v []);
}

-- none of the rules refuses them
pub not_refused : (p : Profile) (v : Value) (why : PayloadRefusal) → IsValid p → p.octet_aligned ≡ false → IsValue p v → IsRefused p (text p v) why → ⊥
not_refused p v why valid packed h refused =
    let none : payload_refusal p (text p v) ≡ None = accepted p v [] (text p v) valid (is_payload p v valid packed h) in
    let both : None ≡ Some why = sym none ∙ refused.first in
    absurd cc

-- the grammar has what is read
in_grammar : (p : Profile) (octets : List ℕ) (v : Value) → IsValid p → p.octet_aligned ≡ false → IsRead p octets v → IsPayload p v [] octets
in_grammar p octets v valid packed h = (packed_exactly p v octets valid packed).0 h.value

-- what is read of them is the value
pub same_value : (p : Profile) (v w : Value) → IsValid p → p.octet_aligned ≡ false → IsValue p v → IsRead p (text p v) w → w ≡ v
same_value p v w valid packed h r =
    one_value p w v [] [] (text p v) valid (in_grammar p (text p v) w valid packed r) (is_payload p v valid packed h)

-- without CRCs no frame is damaged
pub undamaged : (view : PayloadView) (k : ℕ) → IsValid (format_of view) → (format_of view).octet_aligned ≡ false → is_damaged view k ≡ false
undamaged view k valid packed = fails_first view.profile.crc _ (plain_of view.profile valid packed).crc

-- what is read is a value
pub is_value : (p : Profile) (v : Value) (octets : List ℕ) → IsValid p → p.octet_aligned ≡ false → IsRead p octets v → IsValue p v
is_value p v octets valid packed r = (in_grammar p octets v valid packed r).value

-- its canonical octets are those that were read, but for the free bits
pub same_bits : (p : Profile) (v : Value) (octets : List ℕ) → IsValid p → p.octet_aligned ≡ false → IsRead p octets v → bits_of (text p v) ≡ cleared (layout p v []) (bits_of octets)
same_bits p v octets valid packed r = bits_of_text p v packed ∙ sym (cleared_is (layout p v []) (bits_of octets) (in_grammar p octets v valid packed r).bits)

-- and as many
pub same_size : (p : Profile) (v : Value) (octets : List ℕ) → IsValid p → p.octet_aligned ≡ false → IsRead p octets v → length (text p v) ≡ length octets
same_size p v octets valid packed r =
    let a = length-bits_of (text p v) in
    let b = length-bits_of octets in
    let m = ap length (bits_of_text p v packed) ∙ length-map (layout p v []) settled in
    let n = fits_length (layout p v []) (bits_of octets) (in_grammar p octets v valid packed r).bits in
    omega arith
