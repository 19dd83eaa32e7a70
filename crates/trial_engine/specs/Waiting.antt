-- The packet that is held, in its room. This project's own.
use Rattle.std.specs.Prelude.{◌≡◌, ℕ, ◌≤◌, ⊤, List, Option, Some, None, option_map, take, vec_len}
use Rattle.trial_engine.specs.declared.waiting.Waiting.TheInside.{Inside}

abbrev pub held_in : Inside → Option (List ℕ)
held_in s = option_map (λ n. take n s.room.items) s.size

-- a packet that is held is within the room
abbrev pub FitsRoom : Option ℕ → Type 0
FitsRoom None = ⊤
FitsRoom (Some n) = n ≤ 65535

-- the room is as large as when it was made
pub record IsWaiting (s : Inside) : Type 0 where
  pub room : vec_len s.room ≡ 65535
  pub fits : FitsRoom s.size
