-- Bits as numbers, for comparing them.
use Rattle.std.specs.Prelude.{ℕ, Bool, cond, List, map}

-- 1 for each bit that is set, and 0 for each other
abbrev pub numbers : List Bool → List ℕ
numbers bits = map (λ b. cond b 1 0) bits
