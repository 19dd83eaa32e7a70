use Rattle.std.proofs.Common.{arith}
use Rattle.sdp_lines.proofs.Numbers.{next}
use Rattle.sdp_lines.proofs.pieces.value_of.Goals as goal

pub overflow_mul-value : goal.overflow_mul-value
overflow_mul-value c =
    let more = next c.args.digits.now c.loop-digit.digit-index c.requires.digits c.requires.few (omega arith) in omega arith

pub overflow_sub-digit : goal.overflow_sub-digit
overflow_sub-digit c =
    let more = next c.args.digits.now c.loop-digit.digit-index c.requires.digits c.requires.few (omega arith) in omega arith

pub overflow_add-value : goal.overflow_add-value
overflow_add-value c =
    let more = next c.args.digits.now c.loop-digit.digit-index c.requires.digits c.requires.few (omega arith) in omega arith

pub loop-digit-preserved : goal.loop-digit-preserved
loop-digit-preserved c =
    let more = next c.args.digits.now c.loop-digit.digit-index c.requires.digits c.requires.few (omega arith) in omega arith
