-- What decimal digits stand for.
use Rattle.std.proofs.Common.{◌≡◌, ℕ, ◌+◌, ◌-◌, ◌*◌, ◌^◌, ◌<◌, ◌≤◌, true, List, length, take, get_or, arith}
use Rattle.std.specs.Str.{all_ascii_digits}
use Rattle.std.specs.Str.Parse.{digits_value}
use Rattle.std.proofs.lemmas.Int.Digits.{digits_value_more}
use Rattle.std.proofs.lemmas.Str.{digit_value_digit}
use Rattle.std.proofs.lemmas.Str.Parse.{IsNumeralModel, numerals_by_value, tells_all_ascii_digits, digits_value_short, digits_value-take-le, digit_at}

pub digits : IsNumeralModel (λ ds. all_ascii_digits ds ≡ true) (digits_value 10)
digits = numerals_by_value _ tells_all_ascii_digits

-- a digit more, of at most nine
pub record Next (ds : List ℕ) (i : ℕ) : Type 0 where
  pub digit : 48 ≤ get_or ds i 0
  pub value : digits_value 10 (take (i + 1) ds) ≡ digits_value 10 (take i ds) * 10 + (get_or ds i 0 - 48)
  pub fits : digits_value 10 (take (i + 1) ds) < 1000000000

pub next : (ds : List ℕ) (i : ℕ) → all_ascii_digits ds ≡ true → length ds ≤ 9 → i < length ds → Next ds i
next ds i all few below =
    let range = digit_at ds i (digits.to ds all) below in
    let own = digit_value_digit (get_or ds i 0) range in
    let more = digits_value_more 10 ds i below in
    let least = digits_value-take-le 10 ds (i + 1) (omega arith) in
    let most : digits_value 10 ds < 10 ^ 9 = digits_value_short digits ds 9 all few in
    record { digit = omega arith; value = omega arith; fits = omega arith }
