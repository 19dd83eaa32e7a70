use Rattle.std.proofs.Common.{◌≡◌, ◌∙◌, true, rules}
use Rattle.media_params.proofs.Numbers.{is_text, no_number, parsed}
use Rattle.media_params.specs.Listed.{is_number}
use Rattle.media_params.proofs.values.read_number.Goals as goal

pub returns-then-not-is_number : goal.returns-then-not-is_number
returns-then-not-is_number c = no_number c.args.text.now (search rules)

pub returns-in_default : goal.returns-in_default
returns-in_default c = let e : is_number c.args.text.now ≡ true = search rules in absurd (c.in_default.ensures.cases.0 (is_text c.args.text.now e))

pub returns : goal.returns
returns c = let e : is_number c.args.text.now ≡ true = search rules in
    c.ok.ensures.value ∙ parsed c.args.text.now c.in-Ok.digits.now c.parse.result c.in-Ok.ensures.cases.0 c.parse.ensures.value.0 e
