use Rattle.std.proofs.Common.{◌∙◌, ◌+◌, sym, arith, rules, nat_eq, ◌∷◌, take}
use Rattle.std.specs.List.{slice_split}
use Rattle.std.proofs.lemmas.List.{take_rest}
use Rattle.media_params.proofs.Parts.{back_is, front_is, nothing_behind, one_part, parts_are, whole_front}
use Rattle.media_params.proofs.pieces.cut.Goals as goal

pub returns-then-text-place-clause-before : goal.returns-then-text-place-clause-before
returns-then-text-place-clause-before c = front_is (λ o. nat_eq o c.args.octet) c.args.text.now c.loop-place.place (omega arith) c.loop-place.invariant (search rules)

pub returns-then-text-place-clause-behind : goal.returns-then-text-place-clause-behind
returns-then-text-place-clause-behind c = take_rest c.args.text.now (c.loop-place.place + 1)
    ∙ back_is (λ o. nat_eq o c.args.octet) c.args.text.now c.loop-place.place (omega arith) c.loop-place.invariant (search rules)

pub returns-then-text-place-clause-parts : goal.returns-then-text-place-clause-parts
returns-then-text-place-clause-parts c = let behind = take_rest c.args.text.now (c.loop-place.place + 1) in
    parts_are (λ o. nat_eq o c.args.octet) c.args.text.now c.loop-place.place (omega arith) c.loop-place.invariant (search rules)
    ∙ (λ i. take c.loop-place.place c.args.text.now ∷ slice_split (λ o. nat_eq o c.args.octet) (sym behind i))

pub returns-clause-before : goal.returns-clause-before
returns-clause-before c = whole_front (λ o. nat_eq o c.args.octet) c.args.text.now (λ k u. c.loop-place.invariant k (omega arith))

pub returns-clause-none : goal.returns-clause-none
returns-clause-none c = nothing_behind (λ o. nat_eq o c.args.octet) c.args.text.now (λ k u. c.loop-place.invariant k (omega arith))

pub returns-clause-parts : goal.returns-clause-parts
returns-clause-parts c = one_part (λ o. nat_eq o c.args.octet) c.args.text.now (λ k u. c.loop-place.invariant k (omega arith))
