-- The options that are given behind a command: a look-up over the pairs, whatever their order. This
-- project's own.
use Rattle.std.specs.Prelude.{ℕ, Bool, false, ◌&&◌, ◌||◌, ◌%◌, nat_eq, List, [], length, Option, Some, None, is_some, option_and_then, unwrap_or, bytes_eq, codes}
use Rattle.std.specs.List.{list_all, list_any}
use Rattle.std.specs.Result.{result_ok}
use Rattle.amr_frame.specs.First.{when}
use Rattle.amr_frame.specs.declared.codec.Codec.{Codec}
use Rattle.spec_media.specs.Params.{Parameters, is_allowed}
use Rattle.spec_media.specs.Params as media
use Rattle.spec_media.specs.Reading.{parameters_of}
use Rattle.spec_modes.specs.ModeSets.{all_modes, has}
use Rattle.spec_words.specs.Numbers.{between, codec_named, number_of}
use Rattle.spec_words.specs.Table.{Row, Values, Codecs, Numbers, OneMode, ModeLists, Shows, codec, fmtp}
use Rattle.spec_words.specs.Table as option
use Rattle.spec_words.specs.Words.{Pair, all_differ, pairs, value_of}

-- the word behind the option of a row, where it is given
abbrev pub text_at : Row → List Pair → Option (List ℕ)
text_at r given = value_of r.option given

-- the codec, where it is given
abbrev pub codec_at : List Pair → Option Codec
codec_at given = option_and_then codec_named (text_at codec given)

-- the number that a text stands for, if it is one of the values of a row
abbrev pub number_among : Values → List ℕ → Option ℕ
number_among Codecs text = None
number_among (Numbers least greatest) text =
    option_and_then (between least greatest) (number_of text)
number_among option.Parameters text = None
number_among OneMode text = number_of text
number_among ModeLists text = None
number_among Shows text = None

-- the number behind the option of a row; or the default of the row, or another where the row has
-- none
abbrev pub number_at : Row → List Pair → Option ℕ
number_at r given = option_and_then (number_among r.values) (text_at r given)

abbrev pub number_or : ℕ → Row → List Pair → ℕ
number_or default r given = unwrap_or (number_at r given) default

abbrev pub number_or_default : Row → List Pair → ℕ
number_or_default r given = number_or (unwrap_or r.default 0) r given

-- whether the number behind the option of a row is 1
abbrev pub is_on : Row → List Pair → Bool
is_on r given = nat_eq (number_or_default r given) 1

-- the media parameters behind the option of a row, those of the empty text where it isn't given
abbrev pub parameters_at : Codec → Row → List Pair → Option Parameters
parameters_at c r given = result_ok (parameters_of c (unwrap_or (text_at r given) []))

-- the modes of media parameters: all of the codec where they name none
abbrev pub modes_or_all : Codec → Option (List ℕ) → List ℕ
modes_or_all c modes = unwrap_or modes (all_modes c)

-- whether a number is one of the modes that media parameters leave
abbrev is_mode_left : Codec → Option Parameters → Option ℕ → Bool
is_mode_left c None n = false
is_mode_left c (Some p) None = false
is_mode_left c (Some p) (Some n) = has (modes_or_all c p.modes) n

-- whether a text is one of the values, beside the other options
abbrev pub is_value : Codec → List Pair → Values → List ℕ → Bool
is_value c given Codecs text = is_some (codec_named text)
is_value c given (Numbers least greatest) text =
    is_some (number_among (Numbers least greatest) text)
is_value c given option.Parameters text = is_some (result_ok (parameters_of c text))
is_value c given OneMode text = is_mode_left c (parameters_at c fmtp given) (number_of text)
is_value c given ModeLists text = is_allowed c media.Modes text
is_value c given Shows text = bytes_eq text (codes "frames") || bytes_eq text (codes "bits")

-- whether a command takes the option of a row
abbrev pub is_of : List ℕ → Row → Bool
is_of command r = list_any (λ name. bytes_eq name command) r.commands

-- whether a row allows a pair to a command
abbrev pub allows : List ℕ → Codec → List Pair → Pair → Row → Bool
allows command c given p r =
    bytes_eq r.option p.option && is_of command r && is_value c given r.values p.value

-- whether each pair is allowed to the command by one of these rows
abbrev pub are_allowed : List Row → List ℕ → Codec → List Pair → Bool
are_allowed rows command c given =
    list_all (λ p. list_any (allows command c given p) rows) given

-- whether words are pairs each of which a row allows to the command, and no option stands twice
abbrev pub are_options : List Row → List ℕ → Codec → List (List ℕ) → Bool
are_options rows command c words = let given = pairs words in
    nat_eq (length words % 2) 0 && are_allowed rows command c given && all_differ given

-- the codec that words give, where they are options of the command by these rows
abbrev pub codec_of : List Row → List ℕ → List (List ℕ) → Option Codec
codec_of rows command words =
    option_and_then (λ c. when (are_options rows command c words) c) (codec_at (pairs words))
