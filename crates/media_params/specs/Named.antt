-- Rows of the table by their names.
use Rattle.std.specs.Prelude.{ℕ, Bool, List, find, Option}
use Rattle.std.specs.Str.{str_eq_ignore_ascii_case}
use Rattle.spec_media.specs.Params.{Row, rows}

-- whether a row has this name, in capital or small letters
abbrev pub is_called : List ℕ → Row → Bool
is_called name r = str_eq_ignore_ascii_case r.name name

-- the row of this name
abbrev pub row_called : List ℕ → Option Row
row_called name = find (is_called name) rows
