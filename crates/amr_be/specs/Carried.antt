-- What is asked of a payload that is written bandwidth-efficient (RFC 4867, 4.3).
use Rattle.std.specs.Prelude.{◌≡◌, ℕ, List, false}
use Rattle.amr_frame.specs.declared.profile.Profile.{Profile}
use Rattle.amr_toc.specs.declared.payload.Payload.{Payload}
use Rattle.amr_toc.specs.Payloads.{Carries, CarriesInto}

-- a valid bandwidth-efficient format carries it
pub record CarriesPacked (p : Profile) (it : Payload) : Type 0 where
  pub packed : p.octet_aligned ≡ false
  pub payload : Carries p it

-- and there is room for just its octets
pub record CarriesPackedInto (p : Profile) (it : Payload) (out : List ℕ) : Type 0 where
  pub packed : p.octet_aligned ≡ false
  pub payload : CarriesInto p it out
