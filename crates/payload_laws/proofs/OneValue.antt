-- A payload of a valid format has one value and one list of CRCs.
use Rattle.std.proofs.Common.{◌≡◌, ℕ, Bool, true, false, List, refl}
use Rattle.amr_frame.specs.declared.profile.Profile.{Profile}
use Rattle.amr_frame.specs.Profiles.{IsValid}
use Rattle.spec_payload.specs.Grammar.{IsPayload}
use Rattle.spec_payload.specs.Values.{Value}
use Rattle.payload_laws.proofs.Formats.{plain_of, channels_of}
use Rattle.payload_laws.proofs.OneAligned.{one_aligned}
use Rattle.payload_laws.proofs.OnePacked.{one_packed}

-- both, whichever way the octets are aligned
one_of : (p : Profile) (v w : Value) (checks others octets : List ℕ) (z : Bool) → p.octet_aligned ≡ z → IsValid p → IsPayload p v checks octets → IsPayload p w others octets → (v ≡ w) × (checks ≡ others)
one_of p v w checks others octets true aligned valid a b = one_aligned p v w checks others octets aligned (channels_of p valid) a b
one_of p v w checks others octets false packed valid a b = one_packed p v w checks others octets (plain_of p valid packed) a b

-- one value
pub one_value : (p : Profile) (v w : Value) (checks others octets : List ℕ) → IsValid p → IsPayload p v checks octets → IsPayload p w others octets → v ≡ w
one_value p v w checks others octets valid a b = (one_of p v w checks others octets p.octet_aligned refl valid a b).0

-- one list of CRCs
pub one_checks : (p : Profile) (v w : Value) (checks others octets : List ℕ) → IsValid p → IsPayload p v checks octets → IsPayload p w others octets → checks ≡ others
one_checks p v w checks others octets valid a b = (one_of p v w checks others octets p.octet_aligned refl valid a b).1
