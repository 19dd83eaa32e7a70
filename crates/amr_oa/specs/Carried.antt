-- What is asked of a payload that is written octet-aligned (RFC 4867, 4.4).
use Rattle.std.specs.Prelude.{◌≡◌, ℕ, List, true}
use Rattle.amr_frame.specs.declared.profile.Profile.{Profile}
use Rattle.amr_toc.specs.declared.payload.Payload.{Payload}
use Rattle.amr_toc.specs.Payloads.{Carries, CarriesInto}

-- a valid octet-aligned format carries it
pub record CarriesAligned (p : Profile) (it : Payload) : Type 0 where
  pub aligned : p.octet_aligned ≡ true
  pub payload : Carries p it

-- and there is room for just its octets
pub record CarriesAlignedInto (p : Profile) (it : Payload) (out : List ℕ) : Type 0 where
  pub aligned : p.octet_aligned ≡ true
  pub payload : CarriesInto p it out
