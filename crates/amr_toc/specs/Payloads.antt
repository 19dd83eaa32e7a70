-- A payload that is to be written, and which formats can carry it (RFC 4867, 4.3 and 4.4).
use Rattle.std.specs.Prelude.{◌≡◌, ℕ, ◌≤◌, IsTrue, true, false, List, length}
use Rattle.std.specs.List.{AllByRecursion}
use Rattle.amr_frame.specs.Blocks.{frames_of}
use Rattle.amr_frame.specs.declared.cell.Cell.{Cell}
use Rattle.amr_frame.specs.declared.profile.Profile.{Profile}
use Rattle.amr_frame.specs.Profiles.{IsValid}
use Rattle.amr_toc.specs.declared.payload.Payload.{Payload}
use Rattle.spec_payload.specs.Grammar.{text}
use Rattle.spec_payload.specs.Values.{Value, IsValue}

-- what it says
abbrev pub meant : Payload → Value
meant payload = record {
  cmr = payload.cmr;
  stride = payload.stride;
  index = payload.index;
  frames = frames_of payload.cells.now;
}

-- a format carries it where all its cells are present and what it says is a value of the format
pub record IsCarried (p : Profile) (payload : Payload) : Type 0 where
  pub present : AllByRecursion (λ (cell : Cell). IsTrue cell.present) payload.cells.now
  pub value : IsValue p (meant payload)

-- a valid format carries it
pub record Carries (p : Profile) (payload : Payload) : Type 0 where
  pub valid : IsValid p
  pub carried : IsCarried p payload

-- so many octets are written for it, one at least and so many at most
pub record IsSize (p : Profile) (payload : Payload) (limit size : ℕ) : Type 0 where
  pub exact : size ≡ length (text p (meant payload))
  pub some : 1 ≤ size
  pub most : size ≤ limit

-- a valid format carries it, and there is room for just these octets
pub record CarriesInto (p : Profile) (payload : Payload) (out : List ℕ) : Type 0 where
  pub valid : IsValid p
  pub carried : IsCarried p payload
  pub size : length out ≡ length (text p (meant payload))

-- valid formats, bandwidth-efficient (RFC 4867, 4.3) and octet-aligned (4.4)
pub record IsPacked (p : Profile) : Type 0 where
  pub valid : IsValid p
  pub packed : p.octet_aligned ≡ false

pub record IsAligned (p : Profile) : Type 0 where
  pub valid : IsValid p
  pub aligned : p.octet_aligned ≡ true
