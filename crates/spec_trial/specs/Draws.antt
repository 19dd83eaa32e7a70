-- The generator of a trial: a linear congruential one of 64 bits, of whose state the upper bits
-- are drawn. Ours.
use Rattle.std.specs.Prelude.{ℕ, zero, suc, ◌+◌, ◌*◌, ◌/◌, ◌%◌, ◌^◌}

-- the state after the next draw
abbrev pub next : ℕ → ℕ
next x = (x * 6364136223846793005 + 1442695040888963407) % 2 ^ 64

-- the state after n draws
abbrev pub after : ℕ → ℕ → ℕ
after x zero = x
after x (suc n) = next (after x n)

-- what a draw below k gives, by the state after it
abbrev pub drawn : ℕ → ℕ → ℕ
drawn x k = x / 2 ^ 33 % k
