use Rattle.std.proofs.Common.{◌-◌, arith, sym, ◌∙◌}
use Rattle.amr_mode.proofs.Nearest.{up_to_found, up_to_none}
use Rattle.amr_mode.specs.Members.{members}
use Rattle.amr_mode.proofs.mode_set.ModeSet.greatest_up_to.Goals as goal

pub returns-then-has : goal.returns-then-has
returns-then-has c = sym (up_to_found (members c.args.self.now) c.args.limit c.args.otherwise (c.loop-mode.mode - 1) (omega arith)
    (sym c.has.ensures ∙ c.if-has.true) (λ k l u. c.loop-mode.invariant k (omega arith) u))

pub returns : goal.returns
returns c = sym (up_to_none (members c.args.self.now) c.args.limit c.args.otherwise (λ k l u. c.loop-mode.invariant k (omega arith) u))
