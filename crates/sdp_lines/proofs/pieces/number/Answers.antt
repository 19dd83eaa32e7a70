use Rattle.std.proofs.Common.{◌≡◌, ◌≤◌, length, true, subst, sym, ℕ, ◌<◌, ◌^◌, arith, rules}
use Rattle.std.specs.Str.{all_ascii_digits}
use Rattle.std.proofs.lemmas.Str.Parse.{digits_value_short}
use Rattle.sdp_lines.proofs.Numbers.{digits}
use Rattle.sdp_lines.proofs.pieces.number.Goals as goal

pub returns-clause-fits : goal.returns-clause-fits
returns-clause-fits c =
    let all : all_ascii_digits c.args.text.now ≡ true = search rules in
    let few : length c.args.text.now ≤ c.args.most = omega arith in
    let P : ℕ → Type 0 = λ n. n < 10 ^ c.args.most in
    subst P (sym c.value_of.ensures) (digits_value_short digits c.args.text.now c.args.most all few)
