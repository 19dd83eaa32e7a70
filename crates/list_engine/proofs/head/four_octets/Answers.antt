use Rattle.std.proofs.Common.{arith}
use Rattle.list_engine.proofs.Texts.{four_filled}
use Rattle.list_engine.proofs.head.four_octets.Goals as goal

pub returns : goal.returns
returns c = four_filled c.args.n (omega arith)
