-- The canonical octets of an octet-aligned payload are a payload of the value that they are of, with the CRCs of its frames. So the
-- law of all payloads says that no rule refuses them, and what is read of them.
use Rattle.std.proofs.Common.{◌≡◌, ℕ, ◌<◌, false, true, not, nat_eq, List, length, map, take, get_or, sym, ap, ◌∙◌, subst, Some, None}
use Rattle.std.specs.Prelude.{◌&&◌, filter, Ok}
use Rattle.std.proofs.lemmas.List.{length-map}
use Rattle.amr_bits.specs.Bits.{AreOctets}
use Rattle.amr_bits.specs.Layout.{fits, settled}
use Rattle.amr_bits.proofs.Filled.{filled-lt}
use Rattle.amr_bits.proofs.Lists.{all_by}
use Rattle.amr_frame.specs.declared.profile.Profile.{Profile}
use Rattle.amr_frame.specs.Frames.{no_data}
use Rattle.amr_frame.specs.Profiles.{IsValid}
use Rattle.amr_oa.proofs.Canonical.{bits_of_text}
use Rattle.amr_oa.proofs.Returning.{checked_marked, none_differs}
use Rattle.amr_toc.specs.declared.view.PayloadView.{PayloadView}
use Rattle.amr_toc.specs.Told.{IsRead, IsRefused}
use Rattle.amr_toc.specs.Viewed.{format_of, octets_of, is_damaged}
use Rattle.amr_toc.proofs.Settled.{fits_settled}
use Rattle.payload_laws.specs.Seen.{IsSeenAs}
use Rattle.payload_laws.proofs.Checks.{checks_below}
use Rattle.payload_laws.proofs.EachFormat.{not_refused, value_of, checks_of, read_exactly}
use Rattle.spec_payload.specs.declared.refusal.PayloadRefusal.{PayloadRefusal}
use Rattle.spec_payload.specs.Grammar.{IsPayload, layout, text, check_of, checked}
use Rattle.spec_payload.specs.Reading.{payload_refusal, read_as}
use Rattle.spec_payload.specs.Seen.{seen}
use Rattle.spec_payload.specs.Values.{Value, IsValue, has_bits}

-- the CRCs of the frames of a value
abbrev own : Profile → Value → List ℕ
own p v = map (check_of p) (checked p v.frames)

-- the canonical octets are octets
are_octets : (p : Profile) (v : Value) → AreOctets (text p v)
are_octets p v = all_by (λ o. o < 256) (text p v) 0 (λ i l. filled-lt (map settled (layout p v (own p v))) i)

-- and a payload of the value
pub is_payload : (p : Profile) (v : Value) → p.octet_aligned ≡ true → IsValue p v
    → IsPayload p v (own p v) (text p v)
is_payload p v aligned h = record {
  value = h;
  as_many = length-map (checked p v.frames) (check_of p);
  are_octets = checks_below p (checked p v.frames);
  bits = ap (fits (layout p v (own p v))) (bits_of_text p v aligned h) ∙ fits_settled (layout p v (own p v));
}

-- none of the rules refuses them
pub none_refuses : (p : Profile) (v : Value) (why : PayloadRefusal) → IsValid p
    → p.octet_aligned ≡ true → IsValue p v → IsRefused p (text p v) why → ⊥
none_refuses p v why valid aligned h refused =
    let none : payload_refusal p (text p v) ≡ None = not_refused p v (own p v) (text p v) valid (is_payload p v aligned h) in
    let both : None ≡ Some why = sym none ∙ refused.first in
    absurd cc

-- what is read of them is the value
pub same_value : (p : Profile) (v w : Value) → IsValid p → p.octet_aligned ≡ true → IsValue p v
    → IsRead p (text p v) w → w ≡ v
same_value p v w valid aligned h r =
    let as_it_is : seen p v (own p v) ≡ v = λ i. record v { frames = checked_marked p v.frames i } in
    let says : IsSeenAs p v (text p v) = record {
      value = v;
      checks = own p v;
      payload = is_payload p v aligned h;
      as_seen = as_it_is;
    } in
    let read : read_as p (text p v) ≡ Ok v = (read_exactly p v (text p v) valid (are_octets p v)).1 says in
    let both : Ok w ≡ Ok v = sym r.value ∙ read in
    cc

-- no frame of their view is damaged
pub undamaged : (view : PayloadView) (v : Value) (k : ℕ) → IsValid (format_of view)
    → (format_of view).octet_aligned ≡ true → IsValue (format_of view) v
    → octets_of view ≡ text (format_of view) v → is_damaged view k ≡ false
undamaged view v k valid aligned h e =
    let p = format_of view in
    let octets = octets_of view in
    let small : AreOctets octets = subst AreOctets (sym e) (are_octets p v) in
    let says : IsPayload p v (own p v) octets = subst (IsPayload p v (own p v)) (sym e) (is_payload p v aligned h) in
    let value = value_of p v (own p v) octets valid small says in
    let checks = checks_of p v (own p v) octets valid small says in
    (λ i. p.crc && (has_bits (get_or (value i).frames k no_data) && not (nat_eq (get_or (checks i) (length (filter has_bits (take k (value i).frames))) 0) (check_of p (get_or (value i).frames k no_data)))))
    ∙ none_differs p v.frames k
