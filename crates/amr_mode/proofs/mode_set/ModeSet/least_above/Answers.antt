use Rattle.std.proofs.Common.{arith, inl, inr, refl, sym, ◌∙◌}
use Rattle.amr_mode.proofs.Nearest.{above_found}
use Rattle.amr_mode.specs.Members.{members}
use Rattle.amr_mode.proofs.mode_set.ModeSet.least_above.Goals as goal

pub returns-then-has : goal.returns-then-has
returns-then-has c = sym (above_found (members c.args.self.now) c.args.mode c.args.target c.loop-next.next (omega arith) (omega arith)
    (inr (sym c.has.ensures ∙ c.if-has.true)) c.loop-next.invariant)

pub returns : goal.returns
returns c = sym (above_found (members c.args.self.now) c.args.mode c.args.target c.args.target c.requires (omega arith)
    (inl refl) (λ k l u. c.loop-next.invariant k l (omega arith)))
