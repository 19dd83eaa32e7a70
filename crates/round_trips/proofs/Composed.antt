-- What a view shows, written again.
use Rattle.std.proofs.Common.{◌≡◌, ℕ, zero, suc, ◌<◌, Bool, true, false, cond, not, nat_eq, List, [], ◌∷◌, length, map, take, get_or, refl, sym, ap, ◌∙◌, subst, arith, inl, inr}
use Rattle.std.specs.Prelude.{◌&&◌, filter}
use Rattle.std.proofs.lemmas.Bool.{eqb-true}
use Rattle.amr_bits.specs.Bits.{AreOctets, bits_of}
use Rattle.amr_frame.specs.declared.profile.Profile.{Profile}
use Rattle.amr_frame.specs.Frames.{Frame, no_data}
use Rattle.amr_payload.proofs.Again.{same_bits, same_size, seen_own}
use Rattle.amr_payload.specs.Checks.{own_checks}
use Rattle.amr_toc.proofs.Marked.{either, length-marked}
use Rattle.amr_toc.proofs.Valued.{viewed_value}
use Rattle.amr_toc.specs.Cleared.{cleared}
use Rattle.amr_toc.specs.declared.view.PayloadView.{PayloadView}
use Rattle.amr_toc.specs.Viewed.{format_of, octets_of, said, viewed}
use Rattle.payload_laws.proofs.EachFormat.{in_grammar_of}
use Rattle.round_trips.specs.Undamaged.{IsUndamaged}
use Rattle.spec_payload.specs.Grammar.{IsPayload, layout, text, check_of, checked}
use Rattle.spec_payload.specs.Reading.{checks_at, value_at}
use Rattle.spec_payload.specs.Seen.{seen}
use Rattle.spec_payload.specs.Values.{IsValue, Value, has_bits}

-- a test that two others stand before
last_of : (a b c : Bool) → (a && (b && not c)) ≡ false → a ≡ true → b ≡ true → c ≡ true
last_of a b true e s t = refl
last_of true true false e s t = absurd cc
last_of true false false e s t = absurd cc
last_of false b false e s t = absurd cc

-- CRCs that each belong to the next frame that has bits are those of the frames
abbrev Match : Profile → List Frame → List ℕ → Type 0
Match p fs cs = (k : ℕ) → k < length fs → has_bits (get_or fs k no_data) ≡ true
    → get_or cs (length (filter has_bits (take k fs))) 0 ≡ check_of p (get_or fs k no_data)

own_of : (p : Profile) (fs : List Frame) (cs : List ℕ) → length cs ≡ length (filter has_bits fs) → Match p fs cs → cs ≡ map (check_of p) (filter has_bits fs)
own_of p [] [] l m = refl
own_of p [] (c ∷ cs) l m = absurd cc
own_of p (f ∷ fs) cs l m = by_bits (has_bits f) refl (own_of p fs)
  where
    by_bits : (b : Bool) → has_bits f ≡ b → ((ds : List ℕ) → length ds ≡ length (filter has_bits fs) → Match p fs ds → ds ≡ map (check_of p) (filter has_bits fs))
        → cs ≡ map (check_of p) (filter has_bits (f ∷ fs))
    by_bits false s rest =
        rest cs (l ∙ ap (λ b. length (cond b (f ∷ filter has_bits fs) (filter has_bits fs))) s) (λ k h t.
        ap (λ b. get_or cs (length (cond b (f ∷ filter has_bits (take k fs)) (filter has_bits (take k fs)))) 0) (sym s) ∙ m (suc k) (omega arith) t)
        ∙ ap (λ b. map (check_of p) (cond b (f ∷ filter has_bits fs) (filter has_bits fs))) (sym s)
    by_bits true s rest = with_one cs (l ∙ ap (λ b. length (cond b (f ∷ filter has_bits fs) (filter has_bits fs))) s) m
      where
        with_one : (ds : List ℕ) → length ds ≡ suc (length (filter has_bits fs)) → Match p (f ∷ fs) ds → ds ≡ map (check_of p) (filter has_bits (f ∷ fs))
        with_one [] l m = absurd cc
        with_one (d ∷ ds) l m =
            let first : d ≡ check_of p f = m 0 (omega arith) s in
            let later = rest ds (omega arith) (λ k h t.
            ap (λ b. get_or (d ∷ ds) (length (cond b (f ∷ filter has_bits (take k fs)) (filter has_bits (take k fs)))) 0) (sym s) ∙ m (suc k) (omega arith) t) in
            (λ i. first i ∷ later i) ∙ ap (λ b. map (check_of p) (cond b (f ∷ filter has_bits fs) (filter has_bits fs))) (sym s)

-- a view of octets, none of whose frames is damaged
module _ (view : PayloadView) (are : AreOctets view.octets.now) (undamaged : IsUndamaged view) where
  abbrev p : Profile
  p = view.profile

  abbrev octets : List ℕ
  octets = view.octets.now

  abbrev v : Value
  v = said view

  said_so : IsPayload p v (checks_at p octets) octets
  said_so = in_grammar_of p octets view.valid are view.accepted

  -- it carries the CRCs of its frames
  own : checks_at p octets ≡ own_checks p v
  own = elim (either p.crc) [
    | inl some ↦
        let as_many = said_so.as_many ∙ ap (λ b. length (cond b (filter has_bits v.frames) [])) some in
        own_of p v.frames (checks_at p octets) as_many (λ k h t.
        eqb-true (get_or (checks_at p octets) (length (filter has_bits (take k v.frames))) 0) (check_of p (get_or v.frames k no_data))
        (last_of p.crc (has_bits (get_or v.frames k no_data)) (nat_eq (get_or (checks_at p octets) (length (filter has_bits (take k v.frames))) 0) (check_of p (get_or v.frames k no_data)))
        (undamaged.none k (subst (λ n. k < n) (sym (length-marked p v.frames (checks_at p octets))) h)) some t))
        ∙ ap (λ b. map (check_of p) (cond b (filter has_bits v.frames) [])) (sym some)
    | inr none ↦
        let no_checks = said_so.as_many ∙ ap (λ b. length (cond b (filter has_bits v.frames) [])) none in
        empty (checks_at p octets) no_checks ∙ ap (λ b. map (check_of p) (cond b (filter has_bits v.frames) [])) (sym none)
  ]
    where
      empty : (cs : List ℕ) → length cs ≡ 0 → cs ≡ []
      empty [] l = refl
      empty (c ∷ cs) l = absurd cc

  -- and is seen as what it says
  as_said : viewed view ≡ v
  as_said = ap (seen p v) own ∙ seen_own p v

  says : IsPayload p (viewed view) (own_checks p (viewed view)) octets
  says = subst (λ w. IsPayload p w (own_checks p w) octets) (sym as_said) (subst (λ cs. IsPayload p v cs octets) own said_so)

  pub size : length (text p (viewed view)) ≡ length octets
  size = same_size p (viewed view) octets view.valid says

  pub bits : bits_of (text p (viewed view)) ≡ cleared (layout p (viewed view) (checks_at p octets)) (bits_of octets)
  bits =
      same_bits p (viewed view) octets view.valid says
      ∙ ap (λ cs. cleared (layout p (viewed view) cs) (bits_of octets)) (ap (own_checks p) as_said ∙ sym own)

pub carried : (view : PayloadView) → IsValue (format_of view) (viewed view)
carried view = viewed_value view.profile view.octets.now view.valid view.accepted
