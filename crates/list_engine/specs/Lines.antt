-- What contracts see of a line that is gathered: its text. This project's own.
use Rattle.std.specs.Prelude.{◌≡◌, ℕ, ◌≤◌, List, ◌++◌, decimal, take, vec_len}
use Rattle.list_engine.specs.declared.line.Line.TheInside.{Inside}

abbrev pub text_of : Inside → List ℕ
text_of s = take s.used s.room.items

-- what holds of every line: its room is as large as when it was made
pub record IsLine (s : Inside) : Type 0 where
  pub used : s.used ≤ 10240
  pub room : vec_len s.room ≡ 10240

-- two numbers, each behind what names it
abbrev pub pair : List ℕ → ℕ → List ℕ → ℕ → List ℕ
pair first a second b = first ++ decimal a ++ second ++ decimal b
