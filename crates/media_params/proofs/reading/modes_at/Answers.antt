use Rattle.std.proofs.Common.{◌∙◌, sym, ap}
use Rattle.std.specs.Option.{option_copied}
use Rattle.media_params.proofs.Built.{modes_taken, modes_told}
use Rattle.media_params.proofs.reading.modes_at.Goals as goal

pub returns-in-Some-clause-modes : goal.returns-in-Some-clause-modes
returns-in-Some-clause-modes c = modes_told c.args.codec c.args.given.now c.in-Some.value.now c.read_modes.result (sym c.value.ensures ∙ ap option_copied c.in-Some.is)
    (c.read_modes.ensures.allowed ∙ modes_taken c.args.codec c.args.given.now c.in-Some.value c.value.result c.requires c.value.ensures c.in-Some.is) c.read_modes.ensures.modes
