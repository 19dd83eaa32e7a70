use Rattle.std.proofs.Common.{◌-◌, arith}
use Rattle.amr_bits.proofs.Joined.{shifts_put}
use Rattle.amr_bits.proofs.writer.joined.Goals as goal

pub returns : goal.returns
returns c =
    shifts_put c.args.octet (8 - c.args.begun) c.args.value c.args.width (8 - c.args.begun - c.args.width) (omega arith) c.requires.value (omega arith) (omega arith)
