-- The options that are given behind a command that is built.
use Rattle.std.specs.Prelude.{◌≡◌, ℕ, Bool, true, List, Some}
use Rattle.std.specs.List.{list_any}
use Rattle.amr_frame.specs.declared.codec.Codec.{Codec}
use Rattle.command_words.specs.Built.{built}
use Rattle.spec_media.specs.Params.{Modes, Parameters}
use Rattle.spec_media.specs.Params as media
use Rattle.spec_modes.specs.ModeSets.{has}
use Rattle.spec_words.specs.Given.{allows, modes_or_all, number_at, parameters_at, text_at}
use Rattle.spec_words.specs.Table.{fmtp, modes, start}
use Rattle.spec_words.specs.Words.{Pair}

-- whether one of the rows that are built allows a pair
abbrev pub is_allowed : List ℕ → Codec → List Pair → Pair → Bool
is_allowed command c given p = list_any (allows command c given p) built

-- the list of modes that is given, where one is, has modes of the codec alone; and the mode to
-- start at, where one is given, is one of those that the media parameters leave
pub record HasModes (c : Codec) (given : List Pair) : Type 0 where
  pub allowed : (text : List ℕ) → text_at modes given ≡ Some text
      → media.is_allowed c Modes text ≡ true
  pub left : (p : Parameters) (n : ℕ) → parameters_at c fmtp given ≡ Some p
      → number_at start given ≡ Some n → has (modes_or_all c p.modes) n ≡ true
