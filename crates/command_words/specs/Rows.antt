-- The rows of the table and the options as the code has them.
use Rattle.std.specs.Prelude.{ℕ, ◌≤◌, List, None, Some, map, ⊤}
use Rattle.command_words.specs.declared.options.Options.{Options}
use Rattle.command_words.specs.declared.table.Row.{Row as CodeRow}
use Rattle.command_words.specs.declared.values.Values.{Values as CodeValues}
use Rattle.command_words.specs.declared.values.Values.TheVariants as code
use Rattle.spec_words.specs.Table.{Codecs, ModeLists, Numbers, OneMode, Parameters, Shows}
use Rattle.spec_words.specs.Table.{Row, Values}
use Rattle.spec_words.specs.Words.{Pair, pairs, texts}

-- the values and the row that those of the code stand for
abbrev pub values_of : CodeValues → Values
values_of code.Codecs = Codecs
values_of (code.Numbers least greatest) = Numbers least greatest
values_of code.Parameters = Parameters
values_of code.OneMode = OneMode
values_of code.ModeLists = ModeLists
values_of code.Shows = Shows

abbrev pub row_of : CodeRow → Row
row_of r = record {
  option = r.name.now;
  values = values_of r.values;
  default = r.default;
  commands = map (λ name. name.now) r.commands.now;
}

-- the pairs that options of the code stand for
abbrev pub given_in : Options → List Pair
given_in options = pairs (texts options.words.now)

-- a number is one of the values of a row; which modes there are depends on the other options
abbrev pub IsAmong : Values → ℕ → Type 0
IsAmong (Numbers least greatest) n = (least ≤ n) × (n ≤ greatest)
IsAmong OneMode n = ⊤
IsAmong _ n = ⊥

abbrev pub IsWithin : Row → ℕ → Type 0
IsWithin r n = IsAmong r.values n

-- a row has a default, which is one of its values
abbrev pub HasDefault : Row → Type 0
HasDefault r = elim r.default [
  | None ↦ ⊥
  | Some n ↦ IsWithin r n
]
