-- The texts of numbers and of codecs on the command line: this project's own.
use Rattle.std.specs.Prelude.{ℕ, ◌&&◌, Bool, cond, nat_le, List, length, Option, Some, None, bytes_eq, codes}
use Rattle.std.specs.Str.{all_ascii_digits}
use Rattle.std.specs.Str.Parse.{digits_value}
use Rattle.amr_frame.specs.declared.codec.Codec.{Codec}
use Rattle.amr_frame.specs.declared.codec.Codec.TheVariants.{Amr, AmrWb}

-- 1 to 13 decimal digits, which may begin with zeros
abbrev pub is_number : List ℕ → Bool
is_number text = nat_le 1 (length text) && nat_le (length text) 13 && all_ascii_digits text

-- the number that a text stands for
abbrev pub number_of : List ℕ → Option ℕ
number_of text = cond (is_number text) (Some (digits_value 10 text)) None

-- a number, if it is from the least to the greatest
abbrev pub between : ℕ → ℕ → ℕ → Option ℕ
between least greatest n = cond (nat_le least n && nat_le n greatest) (Some n) None

-- the codec that a name stands for
abbrev pub codec_named : List ℕ → Option Codec
codec_named text =
    cond (bytes_eq text (codes "AMR")) (Some Amr)
    (cond (bytes_eq text (codes "AMR-WB")) (Some AmrWb) None)
