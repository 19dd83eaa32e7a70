-- What `parse` gives of a number of the command line.
use Rattle.std.proofs.Common.{◌≡◌, ℕ, ◌^◌, ◌<◌, ◌≤◌, true, ◌&&◌, List, length, Some, None, Result, leb, leb-true, ap, ◌∙◌, sym, arith}
use Rattle.std.specs.Result.{result_ok}
use Rattle.std.specs.Str.{all_ascii_digits}
use Rattle.std.specs.Str.Parse.{digits_value, ParsesUnsigned}
use Rattle.std.proofs.lemmas.Bool.{and_parts, cond-true}
use Rattle.std.proofs.lemmas.Str.Parse.{IsNumeralModel, numerals_by_value, tells_all_ascii_digits, parse_gives, digits_value_short}
use Rattle.spec_words.specs.Numbers.{is_number, number_of}

digits : IsNumeralModel (λ ds. all_ascii_digits ds ≡ true) (digits_value 10)
digits = numerals_by_value _ tells_all_ascii_digits

-- a text that is a number is parsed as that number
pub parsed : {E : Type 0} (text : List ℕ) (r : Result ℕ E) → ParsesUnsigned 64 10 text r → is_number text ≡ true
    → result_ok r ≡ number_of text
parsed text r h e =
    let parts = and_parts (leb 1 (length text) && leb (length text) 13) (all_ascii_digits text) e in
    let bounds = and_parts (leb 1 (length text)) (leb (length text) 13) parts.0 in
    let some : 0 < length text = omega (arith, leb-true 1 (length text) bounds.0) in
    let short : length text ≤ 13 = leb-true (length text) 13 bounds.1 in
    let fits : digits_value 10 text < 2 ^ 64 = omega (arith, digits_value_short digits text 13 parts.1 short) in
    ap result_ok (parse_gives digits 64 text r h parts.1 some fits)
    ∙ sym (cond-true (is_number text) (Some (digits_value 10 text)) None e)
