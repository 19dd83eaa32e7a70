use Rattle.std.proofs.Common.{◌≡◌, ◌+◌, ◌-◌, arith, rules, false, get_or, ap, ◌∙◌}
use Rattle.media_params.proofs.Parts.{end_is}
use Rattle.spec_media.specs.Pieces.{is_white}
use Rattle.media_params.proofs.pieces.trim_end.Goals as goal

pub returns-then-not-is_white : goal.returns-then-not-is_white
returns-then-not-is_white c = let e : is_white (get_or c.args.text.now (c.loop-end.end - 1) 0) ≡ false = search rules in
    end_is c.args.text.now (c.loop-end.end - 1 + 1) (omega arith) (λ k l u. c.loop-end.invariant k (omega arith) u) (λ u. ap (λ n. is_white (get_or c.args.text.now n 0)) (omega arith) ∙ e)

pub returns : goal.returns
returns c = end_is c.args.text.now 0 (omega arith) (λ k l u. c.loop-end.invariant k (omega arith) u) (λ u. absurd (omega arith))
