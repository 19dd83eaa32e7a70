-- Octets that stand across two octets each, and runs of bits near the front of octets.
use Rattle.std.specs.Prelude.{◌≡◌, ℕ, ◌+◌, ◌*◌, ◌^◌, ◌≤◌, ◌<◌, List, length, map}
use Rattle.std.specs.List.{range_with_len}
use Rattle.amr_bits.specs.Bits.{number_at}

-- so many bits lie an octet's bits behind the front of an octet
pub record IsShift (shift : ℕ) : Type 0 where
  pub above : 0 < shift
  pub below : shift < 8

-- octets from bit `shift` on, at least as many as are copied
pub record IsShifted (octets : List ℕ) (shift : ℕ) (out : List ℕ) : Type 0 where
  pub bits : IsShift shift
  pub fits : length out < length octets

-- as many octets as there were, each of the bits from bit `start` of its place on
abbrev pub AreCopied : List ℕ → ℕ → List ℕ → List ℕ → Type 0
AreCopied octets start old new = new
    ≡ map (λ k. number_at octets (8 * k + start) 8) (range_with_len 0 (length old))

-- a run of bits begins in the first of the octets and lies within them
pub record IsNear (octets : List ℕ) (start width : ℕ) : Type 0 where
  pub first : start < 8
  pub fits : start + width ≤ 8 * length octets

-- the number that a run of bits spells
pub record IsSpelt (octets : List ℕ) (start width n : ℕ) : Type 0 where
  pub bits : n ≡ number_at octets start width
  pub below : n < 2 ^ width
