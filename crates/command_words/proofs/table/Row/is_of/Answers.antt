use Rattle.std.proofs.Common.{◌∙◌, bytes_eq}
use Rattle.command_words.proofs.Pairs.{any_of_map}
use Rattle.command_words.proofs.table.Row.is_of.Goals as goal

pub returns : goal.returns
returns c =
    c.contains.ensures.value
    ∙ any_of_map (λ name. bytes_eq name c.args.command.now) (λ name. name.now) c.args.self.now.commands.now
