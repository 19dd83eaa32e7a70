use Rattle.std.proofs.Common.{◌≡◌, sym, subst, refl, true, false}
use Rattle.std.specs.List.{slice_split}
use Rattle.media_params.proofs.Listed.{all_read, ended, left_is, modes_read, none_read, not_read, read_more, set_read}
use Rattle.media_params.specs.Listed.{HasMore}
use Rattle.media_params.specs.Parts.{parts_in}
use Rattle.spec_media.specs.Params.{is_mode_number}
use Rattle.spec_media.specs.Pieces.{is_comma, number_in}
use Rattle.media_params.proofs.values.read_modes.Goals as goal

pub loop-rest-init : goal.loop-rest-init
loop-rest-init c = none_read c.args.codec c.args.text.now (slice_split is_comma c.args.text.now) refl

pub loop-rest-preserved : goal.loop-rest-preserved
loop-rest-preserved c = let l = left_is c.loop-rest.rest c.in-Some.left c.cut.result.0.now (parts_in 44 c.cut.result.1) c.in-Some.is c.cut.ensures.parts in
    read_more c.args.codec c.args.text.now c.cut.result.0.now c.loop-rest.set c.in-Some-with_item.new (parts_in 44 c.loop-rest.rest) (parts_in 44 c.cut.result.1) c.loop-rest.invariant l
    (subst (λ t. is_mode_number c.args.codec (number_in 5 t) ≡ true) c.trim.ensures (sym c.in-Some-with_item.ensures.is_mode))
    (subst (λ t. HasMore c.loop-rest.set (number_in 5 t) c.in-Some-with_item.new) c.trim.ensures c.in-Some-with_item.ensures.modes)

pub returns-in_default-with_item-clause-allowed : goal.returns-in_default-with_item-clause-allowed
returns-in_default-with_item-clause-allowed c = let l = left_is c.loop-rest.rest c.in-Some.left c.cut.result.0.now (parts_in 44 c.cut.result.1) c.in-Some.is c.cut.ensures.parts in
    sym (not_read c.args.codec c.args.text.now c.cut.result.0.now c.loop-rest.set (parts_in 44 c.loop-rest.rest) (parts_in 44 c.cut.result.1) c.loop-rest.invariant l
    (subst (λ t. is_mode_number c.args.codec (number_in 5 t) ≡ false) c.trim.ensures (sym c.in_default-with_item.ensures.is_mode)))

pub returns-clause-allowed : goal.returns-clause-allowed
returns-clause-allowed c = sym (all_read c.args.codec c.args.text.now c.loop-rest.set (ended c.args.codec c.args.text.now c.loop-rest.set c.loop-rest.rest c.loop-rest.invariant c.in_default.is))

pub returns-clause-modes : goal.returns-clause-modes
returns-clause-modes c = modes_read c.args.codec c.args.text.now c.loop-rest.set (ended c.args.codec c.args.text.now c.loop-rest.set c.loop-rest.rest c.loop-rest.invariant c.in_default.is)

pub returns-clause-is_set : goal.returns-clause-is_set
returns-clause-is_set c = set_read c.args.codec c.args.text.now c.loop-rest.set (ended c.args.codec c.args.text.now c.loop-rest.set c.loop-rest.rest c.loop-rest.invariant c.in_default.is)
