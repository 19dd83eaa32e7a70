-- The modes of a set that lie next to a number, in the words of the mode desk.
use Rattle.std.specs.Prelude.{ℕ, min, max, nat_le, nat_lt, List, filter, fold}
use Rattle.spec_modes.specs.Desk.{greatest_or}

-- the greatest that is at most a limit, or another number where there is none
abbrev pub up_to : List ℕ → ℕ → ℕ → ℕ
up_to modes limit otherwise = greatest_or otherwise (filter (λ m. nat_le m limit) modes)

-- the least above a mode, and at most the target
abbrev pub least_above : List ℕ → ℕ → ℕ → ℕ
least_above modes mode target = fold min target (filter (λ m. nat_lt mode m) modes)

-- the greatest below a mode, and at least the target
abbrev pub greatest_below : List ℕ → ℕ → ℕ → ℕ
greatest_below modes mode target = fold max target (filter (λ m. nat_lt m mode) modes)
