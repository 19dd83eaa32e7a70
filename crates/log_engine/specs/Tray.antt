-- What waits to be written. It is ours.
use Rattle.std.specs.Prelude.{ℕ, List, Option}
use Rattle.std.specs.Io.KnownBytes.{Appends}

-- the octets that wait, how much of the room is used, and the room
pub record Tray : Type 0 where
  pub waiting : List ℕ
  pub used : ℕ
  pub room : ℕ

-- known octets stay at the front
abbrev pub Grows : Option (List ℕ) → Option (List ℕ) → Type 0
Grows old new = (more : List ℕ) × Appends old new more
