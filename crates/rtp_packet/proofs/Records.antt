-- Records at the front of a log.
use Rattle.std.proofs.Common.{ℕ, ◌<◌, List, [], ◌∷◌, length, arith}
use Rattle.spec_packet.specs.Log.{IsPartial}
use Rattle.rtp_packet.specs.Record.{need, IsWhole}

-- less than a record tells more octets than there are
pub partial_needs : (octets : List ℕ) → IsPartial octets → length octets < need octets
partial_needs [] part = omega arith
partial_needs (a ∷ []) part = omega arith
partial_needs (a ∷ b ∷ xs) part = omega (arith, part)

pub needs_partial : (octets : List ℕ) → length octets < need octets → IsPartial octets
needs_partial [] few = tt
needs_partial (a ∷ []) few = tt
needs_partial (a ∷ b ∷ xs) few = omega (arith, few)

-- less than a whole record isn't whole
pub partial_not_whole : (octets : List ℕ) → IsPartial octets → IsWhole octets → ⊥
partial_not_whole octets part whole = omega (arith, partial_needs octets part, whole)
