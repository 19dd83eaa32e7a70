use Rattle.std.proofs.Common.{◌∙◌}
use Rattle.command_words.proofs.Numbers.{parsed}
use Rattle.command_words.proofs.values.read_number.Goals as goal

pub returns : goal.returns
returns c = c.ok.ensures.value ∙ parsed c.args.text.now c.parse.result c.parse.ensures.value.0 cc
