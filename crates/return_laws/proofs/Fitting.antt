-- Which portions a session takes one after the other.
use Rattle.std.specs.Prelude.{⊤, ℕ, ◌+◌, ◌-◌, ◌*◌, ◌<◌, ◌≤◌, max, List, [], ◌∷◌}
use Rattle.spec_sending.specs.Portions.{Portion}

-- the last block of a portion
abbrev pub last_of : Portion → ℕ
last_of p = p.first + (p.count - 1) * p.stride

-- behind block h as the last, each portion begins in the window and ends within the reach of the last block before it
abbrev pub Fits : ℕ → ℕ → ℕ → List Portion → Type 0
Fits window reach h [] = ⊤
Fits window reach h (p ∷ ps) =
    (h < p.first + window) × (last_of p ≤ h + reach) × Fits window reach (max h (last_of p)) ps
