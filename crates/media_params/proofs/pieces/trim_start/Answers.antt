use Rattle.std.proofs.Common.{◌≡◌, ◌∙◌, arith, length, rules, false, get_or}
use Rattle.std.proofs.lemmas.List.{take_rest}
use Rattle.media_params.proofs.Parts.{start_is}
use Rattle.spec_media.specs.Pieces.{is_white}
use Rattle.media_params.proofs.pieces.trim_start.Goals as goal

pub returns-then-not-is_white : goal.returns-then-not-is_white
returns-then-not-is_white c = let e : is_white (get_or c.args.text.now c.loop-start.start 0) ≡ false = search rules in
    take_rest c.args.text.now c.loop-start.start ∙ start_is c.args.text.now c.loop-start.start (omega arith) c.loop-start.invariant (λ u. e)

pub returns : goal.returns
returns c = take_rest c.args.text.now (length c.args.text.now)
    ∙ start_is c.args.text.now (length c.args.text.now) (omega arith) (λ k u. c.loop-start.invariant k (omega arith)) (λ u. absurd (omega arith))
