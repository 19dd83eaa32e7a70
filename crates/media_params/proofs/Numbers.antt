-- What `parse` gives of a number of 1 to 5 digits.
use Rattle.std.proofs.Common.{◌≡◌, ℕ, ◌^◌, ◌<◌, ◌≤◌, Bool, true, false, cond, ◌&&◌, List, length, Some, None, Result, leb, leb-true, refl, ap, ◌∙◌, sym, arith, subst}
use Rattle.std.specs.Result.{result_ok}
use Rattle.std.specs.Str.{IsUtf8, all_ascii_digits}
use Rattle.std.specs.Str.Parse.{digits_value, ParsesUnsigned}
use Rattle.std.proofs.lemmas.Bool.{and_parts, cond-true}
use Rattle.std.proofs.lemmas.Fmt.{IsAscii-from_digits}
use Rattle.std.proofs.lemmas.Str.{IsUtf8-from_ascii}
use Rattle.std.proofs.lemmas.Str.Parse.{IsNumeralModel, numerals_by_value, tells_all_ascii_digits, parse_gives, digits_value_short}
use Rattle.media_params.specs.Listed.{is_number}
use Rattle.spec_media.specs.Pieces.{number_in}

digits : IsNumeralModel (λ ds. all_ascii_digits ds ≡ true) (digits_value 10)
digits = numerals_by_value _ tells_all_ascii_digits

grouped : (a b c : Bool) → (a && b && c) ≡ (a && (b && c))
grouped true b c = refl
grouped false b c = refl

pub number_is : (text : List ℕ) → cond (is_number text) (Some (digits_value 10 text)) None ≡ number_in 5 text
number_is text = ap (λ t. cond t (Some (digits_value 10 text)) None) (grouped (leb 1 (length text)) (leb (length text) 5) (all_ascii_digits text))

pub no_number : (text : List ℕ) → is_number text ≡ false → None ≡ number_in 5 text
no_number text e = sym (ap (λ t. cond t (Some (digits_value 10 text)) None) e) ∙ number_is text

-- a text that is a number is text, and is parsed as that number
pub is_text : (text : List ℕ) → is_number text ≡ true → IsUtf8 text
is_text text e = IsUtf8-from_ascii text (IsAscii-from_digits text (digits.to text (and_parts (leb 1 (length text) && leb (length text) 5) (all_ascii_digits text) e).1))

pub parsed : {E : Type 0} (text read : List ℕ) (r : Result ℕ E) → read ≡ text → ParsesUnsigned 32 10 read r → is_number text ≡ true
    → result_ok r ≡ number_in 5 text
parsed text read r same h e =
    let parts = and_parts (leb 1 (length text) && leb (length text) 5) (all_ascii_digits text) e in
    let bounds = and_parts (leb 1 (length text)) (leb (length text) 5) parts.0 in
    let some : 0 < length text = omega (arith, leb-true 1 (length text) bounds.0) in
    let short : length text ≤ 5 = leb-true (length text) 5 bounds.1 in
    let fits : digits_value 10 text < 2 ^ 32 = omega (arith, digits_value_short digits text 5 parts.1 short) in
    ap result_ok (parse_gives digits 32 text r (subst (λ t. ParsesUnsigned 32 10 t r) same h) parts.1 some fits)
    ∙ sym (cond-true (is_number text) (Some (digits_value 10 text)) None e) ∙ number_is text
