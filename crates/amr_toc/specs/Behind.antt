-- Bits that are written behind others, in octets.
use Rattle.std.specs.Prelude.{◌≡◌, ℕ, ◌++◌, Bool, List, drop, take}
use Rattle.amr_bits.specs.Bits.{filled, octets_for}
use Rattle.amr_bits.specs.Written.{front}

-- behind the first `begun` bits of `old` these bits are written, up to bit `end` of `new`; the
-- other bits of a begun octet are then 0, and the octets behind it are left as they were
pub record WrittenBehind (old : List ℕ) (begun : ℕ) (piece : List Bool) (new : List ℕ) (end : ℕ)
    : Type 0 where
  pub bits : front new end ≡ front old begun ++ piece
  pub zeros : take (octets_for end) new ≡ filled (front new end)
  pub later : drop (octets_for end) new ≡ drop (octets_for end) old
