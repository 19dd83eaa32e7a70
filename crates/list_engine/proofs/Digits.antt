-- How many digits numbers have.
use Rattle.std.proofs.Common.{◌≡◌, ℕ, ◌+◌, ◌/◌, ◌^◌, ◌<◌, ◌≤◌, ◌++◌, List, length, ap, ◌∙◌, arith}
use Rattle.std.proofs.Common.{decimal, drop, length-append, take}
use Rattle.std.proofs.Math.Seq.{take-add, take-append_seam}
use Rattle.std.proofs.lemmas.Fmt.{decimal_digit, decimal_step, length-decimal-le}

pub one : (n : ℕ) → n < 10 → length (decimal n) ≡ 1
one n low = ap length (decimal_digit n low)

-- a number has one digit more than its tenth
pub step : (n : ℕ) → 10 ≤ n → n < 2 ^ 64 → length (decimal n) ≡ length (decimal (n / 10)) + 1
step n high fits = ap length (decimal_step n high fits) ∙ length-append _ _

pub two : (n : ℕ) → 10 ≤ n → n < 100 → length (decimal n) ≡ 2
two n high low =
    let less : n / 10 < 10 = omega (arith, low) in
    let fits : n < 2 ^ 64 = omega (arith, low) in
    step n high fits ∙ ap (λ k. k + 1) (one (n / 10) less)

pub three : (n : ℕ) → 100 ≤ n → n < 1000 → length (decimal n) ≡ 3
three n high low =
    let less : n / 10 < 100 = omega (arith, low) in
    let more : 10 ≤ n / 10 = omega (arith, high) in
    let fits : n < 2 ^ 64 = omega (arith, low) in
    let some : 10 ≤ n = omega (arith, high) in
    step n some fits ∙ ap (λ k. k + 1) (two (n / 10) more less)

pub four : (n : ℕ) → 1000 ≤ n → n < 10000 → length (decimal n) ≡ 4
four n high low =
    let less : n / 10 < 1000 = omega (arith, low) in
    let more : 100 ≤ n / 10 = omega (arith, high) in
    let fits : n < 2 ^ 64 = omega (arith, low) in
    let some : 10 ≤ n = omega (arith, high) in
    step n some fits ∙ ap (λ k. k + 1) (three (n / 10) more less)

-- a number has four digits more than its ten-thousandth
pub four_more : (n : ℕ) → 10000 ≤ n → n < 2 ^ 64
    → length (decimal n) ≡ length (decimal (n / 10000)) + 4
four_more n high fits =
    let a = step n (omega (arith, high)) fits in
    let b = step (n / 10) (omega (arith, high)) (omega (arith, fits)) in
    let c = step (n / 10 / 10) (omega (arith, high)) (omega (arith, fits)) in
    let d = step (n / 10 / 10 / 10) (omega (arith, high)) (omega (arith, fits)) in
    let e : n / 10 / 10 / 10 / 10 ≡ n / 10000 = omega arith in
    let f = ap (λ k. length (decimal k)) e in
    omega (arith, a, b, c, d, f)

-- a number of 64 bits has at most 20
pub most : (n : ℕ) → n < 2 ^ 64 → length (decimal n) ≤ 20
most n fits = length-decimal-le 20 n (omega arith) (omega (arith, fits)) fits

-- digits that end where they are to, behind what stood there before
pub placed : (old new : List ℕ) (n at count start : ℕ) → count ≡ length (decimal n)
    → start + length (decimal n) ≡ at + count
    → drop start new ≡ decimal n ++ drop (at + count) old → take start new ≡ take start old
    → take (at + count) new ≡ take at old ++ decimal n
placed old new n at count start long ends written before =
    let same : at ≡ start = omega (arith, long, ends) in
    rw (take-add at count new, same, before, written, long, take-append_seam)
