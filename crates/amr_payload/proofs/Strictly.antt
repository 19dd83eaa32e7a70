-- What a strict format takes: the canonical payloads of the values that have its request and modes.
use Rattle.std.proofs.Common.{◌≡◌, ℕ, suc, ◌+◌, ◌-◌, ◌<◌, ◌≤◌, Bool, true, false, cond, not, ltb, nat_eq, List, [], ◌∷◌, length, map, take, drop, get_or, sym, refl, ap, subst, ◌∙◌, arith, Option, Some, None, inl, inr}
use Rattle.std.specs.Prelude.{◌↔◌, ◌&&◌, find, Result, Ok, Err}
use Rattle.std.specs.Option.{option_map}
use Rattle.std.specs.List.{AllByRecursion, range_with_len}
use Rattle.std.proofs.lemmas.Bool.{eqb-true}
use Rattle.std.proofs.lemmas.List.{append-nil, at_drop_more, take_all}
use Rattle.amr_bits.specs.Bits.{AreOctets}
use Rattle.amr_bits.specs.Layout.{settled}
use Rattle.amr_bits.proofs.Filled.{filled-lt}
use Rattle.amr_bits.proofs.Lists.{all_by}
use Rattle.amr_frame.specs.declared.profile.Profile.{Profile}
use Rattle.amr_frame.specs.First.{first, when}
use Rattle.amr_frame.specs.Frames.{Frame, no_data}
use Rattle.amr_frame.specs.Profiles.{IsValid}
use Rattle.amr_frame.proofs.FirstLemmas.{first_none, when_none}
use Rattle.amr_payload.proofs.Again.{is_payload, same_checks, seen_own}
use Rattle.amr_payload.proofs.Canonical.{same_long}
use Rattle.amr_payload.proofs.Comparing.{all_dropped, found, own_front}
use Rattle.amr_payload.specs.Checks.{own_checks}
use Rattle.amr_oa.proofs.Pieces.{range_from}
use Rattle.amr_payload.specs.Comparing.{differs_from, outside_in}
use Rattle.amr_payload.specs.Taken.{HasModes, IsInFormat, IsTaken, Takes}
use Rattle.amr_toc.proofs.Marked.{either}
use Rattle.amr_toc.proofs.Valued.{viewed_value}
use Rattle.amr_toc.specs.declared.view.PayloadView.{PayloadView}
use Rattle.amr_toc.specs.Told.{Reads, read_of}
use Rattle.amr_toc.specs.Viewed.{viewed}
use Rattle.payload_laws.proofs.EachFormat.{in_grammar_of, read_exactly}
use Rattle.payload_laws.proofs.OneValue.{one_value}
use Rattle.spec_payload.specs.declared.refusal.PayloadRefusal.{PayloadRefusal}
use Rattle.spec_payload.specs.declared.refusal.PayloadRefusal.TheVariants as why
use Rattle.spec_payload.specs.Grammar.{IsPayload, layout, text}
use Rattle.spec_payload.specs.Reading.{answered, payload_refusal, read_as, value_at, checks_at}
use Rattle.spec_payload.specs.Seen.{seen}
use Rattle.spec_payload.specs.Strict.{IsStrict, first_difference, is_outside, mode_outside, not_canonical, refusal_in, request_outside, strict_refusal, taken_as, takes_request, takes_type}
use Rattle.spec_payload.specs.Values.{Value, IsValue}

-- where octets have all of a text they are the text
both_true : (a b : Bool) (x : Option ℕ) (n : ℕ) → cond (a && b) x (Some n) ≡ None → (b ≡ true) × (x ≡ None)
both_true true true x n e = (refl, e)
both_true true false x n e = absurd cc
both_true false b x n e = absurd cc

same_from : (octets rest : List ℕ) (at : ℕ) → at + length rest ≡ length octets → differs_from octets at rest ≡ None → drop at octets ≡ rest
same_from octets [] at l e = all_dropped octets at (omega arith)
same_from octets (x ∷ rest) at l e =
    let b = both_true (ltb at (length octets)) (nat_eq (get_or octets at 0) x) (differs_from octets (at + 1) rest) at e in
    let here : get_or octets at 0 ≡ x = eqb-true (get_or octets at 0) x b.0 in
    at_drop_more (λ (xs : List ℕ). xs) octets at 0 (omega arith)
    ∙ (λ i. here i ∷ same_from octets rest (at + 1) (omega arith) b.1 i)

same_text : (octets text : List ℕ) → length text ≡ length octets → first_difference octets text ≡ None → octets ≡ text
same_text octets text l e = same_from octets text 0 (omega arith) (sym (found octets text l) ∙ e)

-- and octets have all of themselves
no_difference : (octets : List ℕ) → first_difference octets octets ≡ None
no_difference octets =
    found octets octets refl
    ∙ ap (differs_from octets 0) (sym (take_all (length octets) octets (omega arith)) ∙ sym (append-nil (take (length octets) octets)))
    ∙ own_front octets [] 0 (length octets) (omega arith)

-- no frame of a mode that the format doesn't have
all_from : (p : Profile) (frames gs : List Frame) (a : ℕ) → ((k : ℕ) → get_or frames (a + k) no_data ≡ get_or gs k no_data)
    → find (is_outside p frames) (range_with_len a (length gs)) ≡ None → AllByRecursion (λ (f : Frame). takes_type p f.ft ≡ true) gs
all_from p frames [] a h e = tt
all_from p frames (g ∷ gs) a h e =
    let here : get_or frames a no_data ≡ g = ap (λ n. get_or frames n no_data) (omega arith) ∙ h 0 in
    let r = passed (takes_type p (get_or frames a no_data).ft) a (find (is_outside p frames) (range_with_len (a + 1) (length gs))) e in
    (ap (λ (f : Frame). takes_type p f.ft) (sym here) ∙ r.0, all_from p frames gs (a + 1) (λ k. ap (λ n. get_or frames n no_data) (omega arith) ∙ h (suc k)) r.1)
  where
    passed : (b : Bool) (n : ℕ) (o : Option ℕ) → cond (not b) (Some n) o ≡ None → (b ≡ true) × (o ≡ None)
    passed true n o e = (refl, e)
    passed false n o e = absurd cc

none_from : (p : Profile) (frames gs : List Frame) (a : ℕ) → ((k : ℕ) → get_or frames (a + k) no_data ≡ get_or gs k no_data)
    → AllByRecursion (λ (f : Frame). takes_type p f.ft ≡ true) gs → find (is_outside p frames) (range_with_len a (length gs)) ≡ None
none_from p frames [] a h all = refl
none_from p frames (g ∷ gs) a h all =
    let here : get_or frames a no_data ≡ g = ap (λ n. get_or frames n no_data) (omega arith) ∙ h 0 in
    ap (λ (f : Frame). cond (not (takes_type p f.ft)) (Some a) (find (is_outside p frames) (range_with_len (a + 1) (length gs)))) here
    ∙ ap (λ b. cond (not b) (Some a) (find (is_outside p frames) (range_with_len (a + 1) (length gs)))) all.0
    ∙ none_from p frames gs (a + 1) (λ k. ap (λ n. get_or frames n no_data) (omega arith) ∙ h (suc k)) all.1

-- an answer that isn't there
unmapped : {X Y : Type 0} (f : X → Y) (o : Option X) → option_map f o ≡ None → o ≡ None
unmapped f None e = refl
unmapped f (Some x) e = absurd cc

held_true : (b : Bool) → not b ≡ false → b ≡ true
held_true true e = refl
held_true false e = absurd cc

-- what P11 to P13 don't refuse
pub is_strict : (p : Profile) (v : Value) (octets : List ℕ) → length (text p v) ≡ length octets → strict_refusal p v octets ≡ None → IsStrict p v octets
is_strict p v octets l e =
    let a = first_none (not_canonical p v octets) (request_outside p v.cmr ∷ mode_outside p v.frames ∷ []) e in
    let b = first_none (request_outside p v.cmr) (mode_outside p v.frames ∷ []) a.1 in
    let c = first_none (mode_outside p v.frames) [] b.1 in
    record {
      canonical = same_text octets (text p v) l (unmapped why.NotCanonical (first_difference octets (text p v)) a.0);
      request = held_true (takes_request p v.cmr) (when_none (not (takes_request p v.cmr)) (why.RequestOutside v.cmr) b.0);
      modes = all_from p v.frames v.frames 0 (λ k. ap (λ n. get_or v.frames n no_data) (omega arith)) (unmapped _ _ c.0);
    }

pub none_strict : (p : Profile) (v : Value) (octets : List ℕ) → IsStrict p v octets → strict_refusal p v octets ≡ None
none_strict p v octets s =
    let a : not_canonical p v octets ≡ None = ap (λ (xs : List ℕ). option_map why.NotCanonical (first_difference octets xs)) (sym s.canonical) ∙ ap (option_map why.NotCanonical) (no_difference octets) in
    let b : request_outside p v.cmr ≡ None = ap (λ z. when (not z) (why.RequestOutside v.cmr)) s.request in
    let c : mode_outside p v.frames ≡ None = ap (option_map (λ k. why.ModeOutside k (get_or v.frames k no_data).ft)) (none_from p v.frames v.frames 0 (λ k. ap (λ n. get_or v.frames n no_data) (omega arith)) s.modes) in
    ap (λ o. first (o ∷ request_outside p v.cmr ∷ mode_outside p v.frames ∷ [])) a
    ∙ ap (λ o. first (o ∷ mode_outside p v.frames ∷ [])) b
    ∙ ap (λ o. first (o ∷ [])) c

-- a canonical payload is seen as its value is
seen_canonical : (p : Profile) (v : Value) (cs octets : List ℕ) → IsValid p → IsPayload p v cs octets → octets ≡ text p v → seen p v cs ≡ v
seen_canonical p v cs octets valid g e =
    let own : cs ≡ own_checks p v = same_checks p v v cs valid g.value (subst (IsPayload p v cs) e g) in
    ap (seen p v) own ∙ seen_own p v

-- the rules of a strict format
strict_rules : (p : Profile) (octets : List ℕ) → p.strict ≡ true → refusal_in p octets ≡ first (payload_refusal p octets ∷ strict_refusal p (value_at p octets) octets ∷ [])
strict_rules p octets s = ap (λ b. cond b (first (payload_refusal p octets ∷ strict_refusal p (value_at p octets) octets ∷ [])) (payload_refusal p octets)) s

pub plain_rules : (p : Profile) (octets : List ℕ) → p.strict ≡ false → refusal_in p octets ≡ payload_refusal p octets
plain_rules p octets s = ap (λ b. cond b (first (payload_refusal p octets ∷ strict_refusal p (value_at p octets) octets ∷ [])) (payload_refusal p octets)) s

-- what is taken
taken_where : (p : Profile) (octets : List ℕ) → refusal_in p octets ≡ None → taken_as p octets ≡ Ok (seen p (value_at p octets) (checks_at p octets))
taken_where p octets e = ap (λ o. answered o (seen p (value_at p octets) (checks_at p octets))) e

taken_none : (p : Profile) (octets : List ℕ) (v : Value) → taken_as p octets ≡ Ok v → (refusal_in p octets ≡ None) × (seen p (value_at p octets) (checks_at p octets) ≡ v)
taken_none p octets v e = by (refusal_in p octets) e
  where
    by : (o : Option PayloadRefusal) → answered o (seen p (value_at p octets) (checks_at p octets)) ≡ Ok v → (o ≡ None) × (seen p (value_at p octets) (checks_at p octets) ≡ v)
    by None e = (refl, cc)
    by (Some r) e = absurd cc

-- what the first ten rules don't refuse is a payload of what it says
module _ (p : Profile) (octets : List ℕ) (valid : IsValid p) (small : AreOctets octets) (strict : p.strict ≡ true) where
  -- where nothing refuses octets they are those of their value
  as_strict : (v : Value) → taken_as p octets ≡ Ok v → (payload_refusal p octets ≡ None) × IsStrict p v octets
  as_strict v e =
      let t = taken_none p octets v e in
      let f = first_none (payload_refusal p octets) (strict_refusal p (value_at p octets) octets ∷ []) (sym (strict_rules p octets strict) ∙ t.0) in
      let g = in_grammar_of p octets valid small f.0 in
      let s = is_strict p (value_at p octets) octets (same_long p (value_at p octets) (checks_at p octets) octets g) (first_none (strict_refusal p (value_at p octets) octets) [] f.1).0 in
      let is : value_at p octets ≡ v = sym (seen_canonical p (value_at p octets) (checks_at p octets) octets valid g s.canonical) ∙ t.1 in
      (f.0, subst (λ w. IsStrict p w octets) is s)

  to_strict : (v : Value) → taken_as p octets ≡ Ok v → IsInFormat p v octets
  to_strict v e =
      let s = as_strict v e in
      let t = taken_none p octets v e in
      record {
        seen = (read_exactly p v octets valid small).0 (ap (λ o. answered o (seen p (value_at p octets) (checks_at p octets))) s.0 ∙ ap Ok t.1);
        strict = λ z. s.1;
      }

  from_strict : (v : Value) → IsInFormat p v octets → taken_as p octets ≡ Ok v
  from_strict v h =
      let s = h.strict strict in
      let read = (read_exactly p v octets valid small).1 h.seen in
      let r = read_none read in
      let g = in_grammar_of p octets valid small r.0 in
      let mine : IsValue p v = subst (IsValue p) r.1 (viewed_value p octets valid r.0) in
      let own : IsPayload p v (own_checks p v) octets = subst (IsPayload p v (own_checks p v)) (sym s.canonical) (is_payload p v valid mine) in
      let is : v ≡ value_at p octets = one_value p v (value_at p octets) (own_checks p v) (checks_at p octets) octets valid own g in
      let none : strict_refusal p (value_at p octets) octets ≡ None = none_strict p (value_at p octets) octets (subst (λ w. IsStrict p w octets) is s) in
      let all : refusal_in p octets ≡ None = strict_rules p octets strict ∙ ap (λ o. first (o ∷ strict_refusal p (value_at p octets) octets ∷ [])) r.0 ∙ ap (λ o. first (o ∷ [])) none in
      taken_where p octets all ∙ ap Ok r.1
    where
      read_none : read_as p octets ≡ Ok v → (payload_refusal p octets ≡ None) × (seen p (value_at p octets) (checks_at p octets) ≡ v)
      read_none e = by (payload_refusal p octets) e
        where
          by : (o : Option PayloadRefusal) → answered o (seen p (value_at p octets) (checks_at p octets)) ≡ Ok v → (o ≡ None) × (seen p (value_at p octets) (checks_at p octets) ≡ v)
          by None e = (refl, cc)
          by (Some r) e = absurd cc

-- octets are taken exactly where the grammar has them, and a strict format what it asks besides
pub taken_exactly : (p : Profile) (v : Value) (octets : List ℕ) → IsValid p → AreOctets octets → (taken_as p octets ≡ Ok v) ↔ IsInFormat p v octets
taken_exactly p v octets valid small = elim (either p.strict) [
  | inl strict ↦ (to_strict p octets valid small strict v, from_strict p octets valid small strict v)
  | inr plain ↦
      let same : taken_as p octets ≡ read_as p octets = ap (λ o. answered o (seen p (value_at p octets) (checks_at p octets))) (plain_rules p octets plain) in
      let exactly = read_exactly p v octets valid small in (
        λ e. record { seen = exactly.0 (sym same ∙ e); strict = λ s. absurd (let b : true ≡ false = sym s ∙ plain in cc) },
        λ h. same ∙ exactly.1 h.seen,
      )
]

-- what is taken in a strict format is the canonical payload of its value
pub canonical_text : (p : Profile) (v : Value) (octets : List ℕ) → IsValid p → AreOctets octets → p.strict ≡ true → taken_as p octets ≡ Ok v → octets ≡ text p v
canonical_text p v octets valid small strict e = (as_strict p octets valid small strict v e).1.canonical

by_format : (p : Profile) (octets : List ℕ) (answer : Result PayloadView PayloadRefusal) → IsValid p → AreOctets octets → taken_as p octets ≡ read_of answer
    → (v : Value) → (read_of answer ≡ Ok v) ↔ IsInFormat p v octets
by_format p octets answer valid small told v =
    let exactly = taken_exactly p v octets valid small in
    (λ e. exactly.0 (told ∙ e), λ h. sym told ∙ exactly.1 h)

-- a view, and a refusal
pub takes_view : (p : Profile) (octets : List ℕ) (view : PayloadView) → IsValid p → AreOctets octets → Reads p octets (Ok view) → refusal_in p octets ≡ None → Takes p octets (Ok view)
takes_view p octets view valid small read none =
    let same : seen p (value_at p octets) (checks_at p octets) ≡ viewed view = sym (λ i. seen (read.format i) (value_at (read.format i) (read.lent i)) (checks_at (read.format i) (read.lent i))) in
    let told : taken_as p octets ≡ Ok (viewed view) = taken_where p octets none ∙ ap Ok same in
    record {
      value = record { none = none; value = told };
      format = read.format;
      lent = read.lent;
      refused = tt;
      grammar = by_format p octets (Ok view) valid small told;
      canonical = λ strict. canonical_text p (viewed view) octets valid small strict told;
    }

pub takes_refusal : (p : Profile) (octets : List ℕ) (r : PayloadRefusal) → IsValid p → AreOctets octets → refusal_in p octets ≡ Some r → Takes p octets (Err r)
takes_refusal p octets r valid small refused = record {
  value = tt;
  format = tt;
  lent = tt;
  refused = record { first = refused };
  grammar = by_format p octets (Err r) valid small (ap (λ o. answered o (seen p (value_at p octets) (checks_at p octets))) refused);
  canonical = λ strict. tt;
}

-- the refusals of each format go before
pub refused_first : (p : Profile) (octets : List ℕ) (r : PayloadRefusal) → payload_refusal p octets ≡ Some r → refusal_in p octets ≡ Some r
refused_first p octets r e = elim (either p.strict) [
  | inl strict ↦ strict_rules p octets strict ∙ ap (λ o. first (o ∷ strict_refusal p (value_at p octets) octets ∷ [])) e
  | inr plain ↦ plain_rules p octets plain ∙ e
]

-- those of a strict format come behind
pub refused_strictly : (p : Profile) (octets : List ℕ) (o : Option PayloadRefusal) → p.strict ≡ true → payload_refusal p octets ≡ None
    → o ≡ strict_refusal p (value_at p octets) octets → refusal_in p octets ≡ o
refused_strictly p octets o strict none e =
    strict_rules p octets strict ∙ ap (λ z. first (z ∷ strict_refusal p (value_at p octets) octets ∷ [])) none
    ∙ alone (strict_refusal p (value_at p octets) octets) ∙ sym e
  where
    alone : (z : Option PayloadRefusal) → first (z ∷ []) ≡ z
    alone None = refl
    alone (Some r) = refl

-- the first frame of a mode that the format doesn't have is one from `at` on
pub record OutsideFrom (p : Profile) (frames : List Frame) (at : ℕ) : Type 0 where
  pub is : mode_outside p frames ≡ option_map (λ k. why.ModeOutside k (get_or frames k no_data).ft) (find (is_outside p frames) (range_with_len at (length frames - at)))

module _ (p : Profile) (frames : List Frame) (at : ℕ) (h : OutsideFrom p frames at) where
  abbrev told : ℕ → PayloadRefusal
  told k = why.ModeOutside k (get_or frames k no_data).ft

  abbrev behind : Option ℕ
  behind = find (is_outside p frames) (range_with_len (at + 1) (length frames - (at + 1)))

  here : at < length frames → mode_outside p frames ≡ option_map told (cond (is_outside p frames at) (Some at) behind)
  here l = h.is ∙ ap (λ xs. option_map told (find (is_outside p frames) xs)) (range_from at (length frames) l)

  pub outside_step : at < length frames → None ≡ outside_in p frames at → OutsideFrom p frames (at + 1)
  outside_step l e = record { is = here l ∙ by (is_outside p frames at) e }
    where
      by : (b : Bool) → None ≡ when b (told at) → option_map told (cond b (Some at) behind) ≡ option_map told behind
      by true e = absurd cc
      by false e = refl

  pub outside_found : (r : PayloadRefusal) → at < length frames → Some r ≡ outside_in p frames at → mode_outside p frames ≡ Some r
  outside_found r l e = here l ∙ by (is_outside p frames at) e
    where
      by : (b : Bool) → Some r ≡ when b (told at) → option_map told (cond b (Some at) behind) ≡ Some r
      by true e = sym e
      by false e = absurd cc

  pub outside_none : length frames ≤ at → mode_outside p frames ≡ None
  outside_none l =
      let past : length frames - at ≡ 0 = omega arith in
      h.is ∙ ap (λ n. option_map told (find (is_outside p frames) (range_with_len at n))) past

-- the canonical octets of a value are taken as it
pub takes_written : (p : Profile) (v : Value) → IsValid p → IsValue p v → (p.strict ≡ true → HasModes p v) → IsTaken p (text p v) v
takes_written p v valid h modes =
    let small : AreOctets (text p v) = all_by (λ (o : ℕ). o < 256) (text p v) 0 (λ i l. filled-lt (map settled (layout p v (own_checks p v))) i) in
    let told : taken_as p (text p v) ≡ Ok v = (taken_exactly p v (text p v) valid small).1 (record {
      seen = record { value = v; checks = own_checks p v; payload = is_payload p v valid h; as_seen = seen_own p v };
      strict = λ s. record { canonical = refl; request = (modes s).request; modes = (modes s).modes };
    }) in
    record { none = (taken_none p (text p v) v told).0; value = told }

pub taken_as_written : (p : Profile) (v : Value) (octets : List ℕ) → IsValid p → IsValue p v → octets ≡ text p v
    → (p.strict ≡ true → HasModes p v) → IsTaken p octets v
taken_as_written p v octets valid h e modes =
    subst (λ (os : List ℕ). IsTaken p os v) (sym e) (takes_written p v valid h modes)

-- in a strict format a value has one payload
pub one_payload : (p : Profile) (v w : Value) (octets others : List ℕ) → IsValid p → p.strict ≡ true → AreOctets octets → AreOctets others
    → IsTaken p octets v → IsTaken p others w → (v ≡ w) ↔ (octets ≡ others)
one_payload p v w octets others valid strict small less a b = (
  λ e. canonical_text p v octets valid small strict a.value ∙ ap (text p) e ∙ sym (canonical_text p w others valid less strict b.value),
  λ e. (let both : Ok v ≡ Ok w = sym a.value ∙ ap (taken_as p) e ∙ b.value in cc),
)
