use Rattle.std.proofs.Common.{◌-◌, arith, inl, inr, refl, sym, ◌∙◌}
use Rattle.amr_mode.proofs.Nearest.{below_found}
use Rattle.amr_mode.specs.Members.{members}
use Rattle.amr_mode.proofs.mode_set.ModeSet.greatest_below.Goals as goal

pub returns-then-has : goal.returns-then-has
returns-then-has c = sym (below_found (members c.args.self.now) c.args.mode c.args.target (c.loop-next.next - 1) (omega arith) (omega arith)
    (inr (omega arith, sym c.has.ensures ∙ c.if-has.true)) (λ k l u. c.loop-next.invariant k (omega arith) u))

pub returns : goal.returns
returns c = sym (below_found (members c.args.self.now) c.args.mode c.args.target c.args.target (omega arith) c.requires
    (inl refl) (λ k l u. c.loop-next.invariant k (omega arith) u))
