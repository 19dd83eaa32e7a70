-- Numbers in texts, and sets of modes from lists of numbers.
use Rattle.std.specs.Prelude.{◌≡◌, ℕ, ◌&&◌, ◌||◌, Bool, false, nat_eq, nat_le, List, length, Option, Some, None}
use Rattle.std.specs.Str.{all_ascii_digits}
use Rattle.amr_mode.specs.Members.{members}
use Rattle.amr_mode.specs.declared.mode_set.ModeSet.{ModeSet}
use Rattle.spec_modes.specs.ModeSets.{has}

-- 1 to 5 decimal digits, which may begin with zeros
abbrev pub is_number : List ℕ → Bool
is_number text = nat_le 1 (length text) && nat_le (length text) 5 && all_ascii_digits text

-- whether this is the number, if there is one
abbrev pub is_that : Option ℕ → ℕ → Bool
is_that None k = false
is_that (Some n) k = nat_eq n k

-- a set has the modes of another, and the number, if there is one
pub record HasMore (set : ModeSet) (number : Option ℕ) (new : ModeSet) : Type 0 where
  pub modes : (k : ℕ) → has (members new) k ≡ (is_that number k || has (members set) k)
