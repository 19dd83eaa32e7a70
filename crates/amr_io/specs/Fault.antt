-- Counts of faults, and what a failed call does to one. Ours: std's readers and writers count none.
use Rattle.std.specs.Prelude.{◌≡◌, ℕ, ◌+◌, ◌-◌, ◌^◌, ◌<◌, ◌≤◌, ◌⊎◌, min, MatchResult, OnErr, Result}

-- the count rose: it is greater than before, or stands at 2 ^ 64 - 1, past which it does not go
abbrev pub Rose : ℕ → ℕ → Type 0
Rose before after = (before ≤ after) × (after ≤ 2 ^ 64 - 1)
    × ((before < after) ⊎ (after ≡ 2 ^ 64 - 1))

-- a call that fails raised the count, and any other leaves it as before
abbrev pub HasCause : {A E : Type 0} → ℕ → ℕ → Result A E → Type 0
HasCause before after r = MatchResult r (λ _. after ≡ before) (λ _. Rose before after)

-- a call that fails raised the count by one, up to 2 ^ 64 - 1, and any other leaves it as before
pub record CountsFault {A E : Type 0} (before after : ℕ) (r : Result A E) : Type 0 where
  pub cause : HasCause before after r
  pub counted : OnErr r (after ≡ min (before + 1) (2 ^ 64 - 1))
