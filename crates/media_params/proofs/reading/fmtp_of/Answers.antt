use Rattle.std.proofs.Common.{◌^◌, arith, refl}
use Rattle.media_params.proofs.Built.{fewer, ranged}
use Rattle.media_params.specs.Readings.{number_at}
use Rattle.refusals.specs.declared.param.Param.TheVariants as param
use Rattle.media_params.proofs.reading.fmtp_of.Goals as goal

pub count_at-requires : goal.count_at-requires
count_at-requires c = fewer 1 2 (2 ^ 8) (number_at c.args.given.now param.Period) (omega arith) (ranged c.args.codec c.args.given.now param.Period 1 2 c.requires refl)

pub count_at-requires-2 : goal.count_at-requires-2
count_at-requires-2 c = fewer 1 2 (2 ^ 8) (number_at c.args.given.now param.Capability) (omega arith) (ranged c.args.codec c.args.given.now param.Capability 1 2 c.requires refl)

pub short_at-requires : goal.short_at-requires
short_at-requires c = fewer 1 65535 (2 ^ 16) (number_at c.args.given.now param.Interleaving) (omega arith) (ranged c.args.codec c.args.given.now param.Interleaving 1 65535 c.requires refl)

pub short_at-requires-2 : goal.short_at-requires-2
short_at-requires-2 c = fewer 0 65535 (2 ^ 16) (number_at c.args.given.now param.MaxRed) (omega arith) (ranged c.args.codec c.args.given.now param.MaxRed 0 65535 c.requires refl)
