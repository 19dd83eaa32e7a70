-- What is told of octets as a payload of a format, strict or not (RFC 4867, 4.3 and 4.4). Records,
-- as those of the rules that each format has.
use Rattle.std.specs.Prelude.{◌≡◌, ◌↔◌, ℕ, true, List, Some, None, Result, Ok, IfOk, IfErr}
use Rattle.std.specs.List.{AllByRecursion}
use Rattle.amr_frame.specs.declared.profile.Profile.{Profile}
use Rattle.amr_frame.specs.Frames.{Frame}
use Rattle.amr_toc.specs.declared.view.PayloadView.{PayloadView}
use Rattle.amr_toc.specs.Told.{read_of}
use Rattle.amr_toc.specs.Viewed.{format_of, octets_of, viewed}
use Rattle.payload_laws.specs.Seen.{IsSeenAs}
use Rattle.spec_payload.specs.declared.refusal.PayloadRefusal.{PayloadRefusal}
use Rattle.spec_payload.specs.Grammar.{text}
use Rattle.spec_payload.specs.Strict.{IsStrict, refusal_in, taken_as, takes_request, takes_type}
use Rattle.spec_payload.specs.Values.{Value}

-- they say this value, as it is seen, and break no rule of the format
pub record IsTaken (p : Profile) (octets : List ℕ) (v : Value) : Type 0 where
  pub none : refusal_in p octets ≡ None
  pub value : taken_as p octets ≡ Ok v

-- this is the first rule of the format that they break
pub record IsRefusedIn (p : Profile) (octets : List ℕ) (why : PayloadRefusal) : Type 0 where
  pub first : refusal_in p octets ≡ Some why

-- the grammar has them with this value, as it is seen; and in a strict format they are the
-- canonical payload of it, and what they request and carry are modes of the format
pub record IsInFormat (p : Profile) (v : Value) (octets : List ℕ) : Type 0 where
  pub seen : IsSeenAs p v octets
  pub strict : p.strict ≡ true → IsStrict p v octets

-- what a reader of payloads promises of its answer in a format, strict or not
pub record Takes (p : Profile) (octets : List ℕ) (answer : Result PayloadView PayloadRefusal)
    : Type 0 where
  pub value : IfOk answer (λ view. IsTaken p octets (viewed view))
  pub format : IfOk answer (λ view. format_of view ≡ p)
  pub lent : IfOk answer (λ view. octets_of view ≡ octets)
  pub refused : IfErr answer (λ why. IsRefusedIn p octets why)
  pub grammar : (v : Value) → (read_of answer ≡ Ok v) ↔ IsInFormat p v octets
  pub canonical : p.strict ≡ true → IfOk answer (λ view. octets ≡ text p (viewed view))

-- what a value requests and carries are modes of the format
pub record HasModes (p : Profile) (v : Value) : Type 0 where
  pub request : takes_request p v.cmr ≡ true
  pub modes : AllByRecursion (λ (f : Frame). takes_type p f.ft ≡ true) v.frames
