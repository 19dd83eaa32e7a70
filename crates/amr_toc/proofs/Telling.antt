-- What a reader tells of octets, by the rules that hold.
use Rattle.std.proofs.Common.{◌≡◌, ℕ, Bool, true, eqb, ltb, List, [], ◌∷◌, length, refl, ap, ◌∙◌, sym, arith, Option, Some, None}
use Rattle.std.specs.Prelude.{Ok}
use Rattle.std.proofs.lemmas.Bool.{eq-eqb, ltb-false}
use Rattle.amr_frame.specs.declared.profile.Profile.{Profile}
use Rattle.amr_frame.specs.First.{when, first}
use Rattle.amr_frame.proofs.FirstLemmas.{first_none, when_none}
use Rattle.spec_payload.specs.declared.refusal.PayloadRefusal.{PayloadRefusal}
use Rattle.spec_payload.specs.declared.refusal.PayloadRefusal.TheVariants as why
use Rattle.spec_payload.specs.Reading.{payload_refusal, read_as, value_at, checks_at}
use Rattle.spec_payload.specs.Seen.{seen}
use Rattle.amr_toc.specs.Fitting.{misfit}
use Rattle.amr_toc.specs.Told.{IsRefused}

-- the first of the rules, where it holds
at_empty : (e : Bool) (x : PayloadRefusal) (os : List (Option PayloadRefusal)) → e ≡ true → first (when e x ∷ os) ≡ Some x
at_empty e x os h = rw h refl

-- no octet is refused as none
pub empty_is : (p : Profile) (octets : List ℕ) → length octets ≡ 0 → IsRefused p octets why.Empty
empty_is p octets e = record { first = at_empty (eqb (length octets) 0) why.Empty _ (eq-eqb (length octets) 0 e) }

-- octets that fit are as many as needed
pub exactly : (n have : ℕ) → misfit n have ≡ None → n ≡ have
exactly n have e =
    let f = first_none (when (ltb have n) (why.BodyShort n have)) _ e in
    let g = first_none (when (ltb n have) (why.BodyLong n have)) [] f.1 in
    let a = ltb-false have n (when_none (ltb have n) (why.BodyShort n have) f.0) in
    let b = ltb-false n have (when_none (ltb n have) (why.BodyLong n have) g.0) in
    omega arith

-- what octets that aren't refused say
pub read_is : (p q : Profile) (octets others : List ℕ) → payload_refusal p octets ≡ None → q ≡ p → others ≡ octets → read_as p octets ≡ Ok (seen q (value_at q others) (checks_at q others))
read_is p q octets others none e f =
    let this : read_as p octets ≡ Ok (seen p (value_at p octets) (checks_at p octets)) = rw none refl in
    this ∙ ap Ok (λ i. seen (sym e i) (value_at (sym e i) (sym f i)) (checks_at (sym e i) (sym f i)))
