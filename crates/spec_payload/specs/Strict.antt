-- What a strict format refuses besides P1 to P10, and what it takes. It is this project's own: RFC
-- 4867, 4.3 and 4.4, has a sender write free bits 0, and 8.1 lets a session have a set of modes.
use Rattle.std.specs.Prelude.{◌≡◌, ℕ, ◌/◌, ◌%◌, ◌^◌, Bool, true, cond, not, ◌||◌, nat_eq, List, [], ◌∷◌, length, map, slice_index, slice_index_or, Option, Some, None, Result, find}
use Rattle.std.specs.Option.{option_map}
use Rattle.std.specs.List.{AllByRecursion, range_with_len}
use Rattle.amr_frame.specs.declared.profile.Profile.{Profile}
use Rattle.amr_frame.specs.First.{when, first}
use Rattle.amr_frame.specs.Frames.{Frame, no_data}
use Rattle.amr_frame.specs.Tables.{is_mode}
use Rattle.spec_payload.specs.declared.refusal.PayloadRefusal.{PayloadRefusal}
use Rattle.spec_payload.specs.declared.refusal.PayloadRefusal.TheVariants as why
use Rattle.spec_payload.specs.Grammar.{text}
use Rattle.spec_payload.specs.Reading.{answered, payload_refusal, value_at, checks_at}
use Rattle.spec_payload.specs.Seen.{seen}
use Rattle.spec_payload.specs.Values.{Value}

-- whether a format has a mode: bit m of its modes stands for mode m
abbrev pub has_mode : Profile → ℕ → Bool
has_mode p m = nat_eq (p.modes / 2 ^ m % 2) 1

-- whether it takes a codec mode request: 15 asks for no mode
abbrev pub takes_request : Profile → ℕ → Bool
takes_request p cmr = nat_eq cmr 15 || has_mode p cmr

-- whether it takes frames of a type: any but speech of a mode that it doesn't have
abbrev pub takes_type : Profile → ℕ → Bool
takes_type p ft = not (is_mode p.codec ft) || has_mode p ft

-- whether two lists differ at a place, and the first place of the one where they do
abbrev pub differs_at : List ℕ → List ℕ → ℕ → Bool
differs_at xs ys k = not (nat_eq (slice_index xs k) (slice_index ys k))

abbrev pub first_difference : List ℕ → List ℕ → Option ℕ
first_difference xs ys = find (differs_at xs ys) (range_with_len 0 (length xs))

-- P11: octets aren't the canonical payload of their value
abbrev pub not_canonical : Profile → Value → List ℕ → Option PayloadRefusal
not_canonical p v octets = option_map why.NotCanonical (first_difference octets (text p v))

-- P12: the codec mode request is neither 15 nor a mode of the format
abbrev pub request_outside : Profile → ℕ → Option PayloadRefusal
request_outside p cmr = when (not (takes_request p cmr)) (why.RequestOutside cmr)

-- P13: a speech frame has a mode that the format doesn't have
abbrev pub is_outside : Profile → List Frame → ℕ → Bool
is_outside p frames k = not (takes_type p (slice_index_or frames k no_data).ft)

abbrev pub mode_outside : Profile → List Frame → Option PayloadRefusal
mode_outside p frames =
    option_map (λ k. why.ModeOutside k (slice_index_or frames k no_data).ft)
    (find (is_outside p frames) (range_with_len 0 (length frames)))

-- the first of these three
abbrev pub strict_refusal : Profile → Value → List ℕ → Option PayloadRefusal
strict_refusal p v octets = first (
    not_canonical p v octets ∷ request_outside p v.cmr ∷ mode_outside p v.frames ∷ [])

-- the first rule that octets break in the format, strict or not: P1 to P13
abbrev pub refusal_in : Profile → List ℕ → Option PayloadRefusal
refusal_in p octets = cond p.strict
    (first (payload_refusal p octets ∷ strict_refusal p (value_at p octets) octets ∷ []))
    (payload_refusal p octets)

-- what octets say in the format, strict or not, as it is seen, or why they are refused
abbrev pub taken_as : Profile → List ℕ → Result Value PayloadRefusal
taken_as p octets =
    answered (refusal_in p octets) (seen p (value_at p octets) (checks_at p octets))

-- what a strict format asks of a payload besides its grammar: it is the canonical one of its
-- value, and what it requests and carries are modes of the format
pub record IsStrict (p : Profile) (v : Value) (octets : List ℕ) : Type 0 where
  pub canonical : octets ≡ text p v
  pub request : takes_request p v.cmr ≡ true
  pub modes : AllByRecursion (λ (f : Frame). takes_type p f.ft ≡ true) v.frames
