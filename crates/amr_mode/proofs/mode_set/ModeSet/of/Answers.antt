use Rattle.std.proofs.Common.{arith, refl}
use Rattle.amr_mode.proofs.Sets.{no_set_above, no_set_of_none, set_of}
use Rattle.amr_mode.proofs.mode_set.ModeSet.of.Goals.{then-bits-eq0-via-then-bits-eq0, then-bits-eq0-via-else-bits-eq0+then-bits-all}
use Rattle.amr_mode.proofs.mode_set.ModeSet.of.Goals as goal

pub returns-then-bits-eq0-clause-is_set : goal.returns-then-bits-eq0-clause-is_set
returns-then-bits-eq0-clause-is_set c = elim c.then-bits-eq0.branch [
  | then-bits-eq0-via-then-bits-eq0 w ↦ (λ e. absurd cc, λ k. absurd (no_set_of_none c.args.codec (record { bits = c.args.bits }) w.if-bits-eq0.true k))
  | then-bits-eq0-via-else-bits-eq0+then-bits-all w ↦ (λ e. absurd cc, λ k. absurd (no_set_above c.args.codec (record { bits = c.args.bits }) (omega (arith, c.ranges.bits.fits)) (omega (arith, w.all.ensures.bits, w.if-bits-all.true)) k))
]

pub returns-clause-is_set : goal.returns-clause-is_set
returns-clause-is_set c = (λ e. set_of c.args.codec (record { bits = c.args.bits }) (omega arith) (omega (arith, c.all.ensures.bits, c.if-bits-all.false)), λ k. refl)
