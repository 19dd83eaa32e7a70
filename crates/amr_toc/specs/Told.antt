-- What a reader tells of the octets of a payload (RFC 4867, 4.3 and 4.4). Records, so that a proof
-- about a reader doesn't compute all rules of a payload where it only passes an answer on.
use Rattle.std.specs.Prelude.{◌≡◌, ◌↔◌, ℕ, List, Some, None, Result, Ok, Err, IfOk, IfErr}
use Rattle.amr_frame.specs.declared.profile.Profile.{Profile}
use Rattle.amr_frame.specs.Profiles.{IsValid}
use Rattle.amr_toc.specs.declared.entry.Toc.{Toc}
use Rattle.amr_toc.specs.declared.view.PayloadView.{PayloadView}
use Rattle.amr_toc.specs.Lists.{listed, toc_at}
use Rattle.amr_toc.specs.Viewed.{format_of, octets_of, viewed}
use Rattle.payload_laws.specs.Seen.{IsSeenAs}
use Rattle.spec_payload.specs.declared.refusal.PayloadRefusal.{PayloadRefusal}
use Rattle.spec_payload.specs.Reading.{payload_refusal, read_as}
use Rattle.spec_payload.specs.Values.{Value}

-- they break none of the rules
pub record IsAccepted (p : Profile) (octets : List ℕ) : Type 0 where
  pub none : payload_refusal p octets ≡ None

-- this is the first rule that they break
pub record IsRefused (p : Profile) (octets : List ℕ) (why : PayloadRefusal) : Type 0 where
  pub first : payload_refusal p octets ≡ Some why

-- they say this value, as it is seen
pub record IsRead (p : Profile) (octets : List ℕ) (v : Value) : Type 0 where
  pub none : payload_refusal p octets ≡ None
  pub value : read_as p octets ≡ Ok v

-- the octets break no rule of a valid format, and this is their table
pub record IsTableOf (p : Profile) (octets : List ℕ) (toc : Toc) : Type 0 where
  pub valid : IsValid p
  pub accepted : payload_refusal p octets ≡ None
  pub table : listed toc ≡ toc_at p octets

-- what a reader of tables promises of its answer: a table where the octets break no rule, and it is
-- theirs, or the first rule that they break
pub record Accepts (p : Profile) (octets : List ℕ) (answer : Result Toc PayloadRefusal)
    : Type 0 where
  pub accepted : IfOk answer (λ toc. IsAccepted p octets)
  pub table : IfOk answer (λ toc. listed toc ≡ toc_at p octets)
  pub refused : IfErr answer (λ why. IsRefused p octets why)

-- the value that an answer shows
abbrev pub read_of : Result PayloadView PayloadRefusal → Result Value PayloadRefusal
read_of (Ok view) = Ok (viewed view)
read_of (Err why) = Err why

-- what a reader of payloads promises of its answer: the view is one of these octets in this format
-- and shows what they say, or the first rule that they break is told; and octets are read as a
-- value exactly where the grammar has them with this value, as it is seen, so that they have one at
-- most
pub record Reads (p : Profile) (octets : List ℕ) (answer : Result PayloadView PayloadRefusal)
    : Type 0 where
  pub value : IfOk answer (λ view. IsRead p octets (viewed view))
  pub format : IfOk answer (λ view. format_of view ≡ p)
  pub lent : IfOk answer (λ view. octets_of view ≡ octets)
  pub refused : IfErr answer (λ why. IsRefused p octets why)
  pub grammar : (v : Value) → (read_of answer ≡ Ok v) ↔ IsSeenAs p v octets
