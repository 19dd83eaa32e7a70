-- Octets behind a front of a storage file (RFC 4867, 5.3): whole frames, one behind the other.
use Rattle.std.specs.Prelude.{◌≡◌, ◌<◌, ◌+◌, ℕ, false, true, List, flat_map, length}
use Rattle.std.specs.List.{AllByRecursion}
use Rattle.amr_frame.specs.declared.codec.Codec.{Codec}
use Rattle.amr_frame.specs.Tables.{octets_in}
use Rattle.spec_store.specs.StorageReading.{is_reserved_unit, is_unit, unit_type}

-- octets that are these frames, of types that there are
pub record AreUnits (codec : Codec) (units : List (List ℕ)) (octets : List ℕ) : Type 0 where
  pub join : octets ≡ flat_map (λ u. u) units
  pub whole : AllByRecursion (λ u. is_unit codec u ≡ true) units
  pub known : AllByRecursion (λ u. is_reserved_unit codec u ≡ false) units

-- octets that are less than the frame that they begin
abbrev pub IsPart : Codec → List ℕ → Type 0
IsPart codec rest = length rest < 1 + octets_in codec (unit_type rest)
