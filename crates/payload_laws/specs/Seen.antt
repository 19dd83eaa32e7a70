-- What octets say as a payload of a format, by the grammar (RFC 4867, 4.3 and 4.4).
use Rattle.std.specs.Prelude.{◌≡◌, ℕ, List}
use Rattle.amr_frame.specs.declared.profile.Profile.{Profile}
use Rattle.spec_payload.specs.Grammar.{IsPayload}
use Rattle.spec_payload.specs.Seen.{seen}
use Rattle.spec_payload.specs.Values.{Value}

-- octets are a payload of the format, with the CRCs that they carry, and its value is seen as w
pub record IsSeenAs (p : Profile) (w : Value) (octets : List ℕ) : Type 0 where
  pub value : Value
  pub checks : List ℕ
  pub payload : IsPayload p value checks octets
  pub as_seen : seen p value checks ≡ w
