-- Numbers between two others.
use Rattle.std.specs.Prelude.{◌<◌, ◌⊎◌, ℕ}

-- n lies between a and b, and is neither
abbrev pub IsBetween : ℕ → ℕ → ℕ → Type 0
IsBetween a b n = ((a < n) × (n < b)) ⊎ ((b < n) × (n < a))
