use Rattle.std.proofs.Common.{◌≡◌, ◌-◌, sym, ap, ◌∙◌, arith, true, false}
use Rattle.std.proofs.lemmas.List.{length-map}
use Rattle.amr_frame.specs.Blocks.{frames_of}
use Rattle.amr_sender.proofs.Putting.{block_frames}
use Rattle.amr_sender.proofs.Trimming.{none_at, some_at, trailing_more, trailing_none, trimmed_at, trimmed_none}
use Rattle.amr_sender.specs.Held.{held_of}
use Rattle.spec_sending.specs.Sending.{block_of, is_empty}
use Rattle.amr_sender.proofs.groups.trimmed_len.Goals as goal

pub loop-count-init : goal.loop-count-init
loop-count-init c =
    trailing_none (held_of c.args.group.now) c.len-count.result
    (c.len-count.ensures.exact ∙ sym (length-map c.args.group.now.blocks frames_of))

pub block-requires : goal.block-requires
block-requires c =
    let most = c.loop-count.invariant.most in
    let some = c.loop-count-test.true in
    let size = length-map c.args.group.now.blocks frames_of in
    record { within = omega (arith, most, some, size) }

pub loop-count-preserved : goal.loop-count-preserved
loop-count-preserved c =
    let held = held_of c.args.group.now in
    let count = c.loop-count.count in
    let empty : is_empty (block_of held (count - 1)) ≡ true =
    ap is_empty (sym (block_frames c.args.group.now.blocks (count - 1)) ∙ ap frames_of (sym c.block.ensures.cells))
    ∙ sym c.is_silent.ensures ∙ c.if-is_silent.true in
    trailing_more held count c.loop-count-test.true empty c.loop-count.invariant

pub returns-else-is_silent-clause-trimmed : goal.returns-else-is_silent-clause-trimmed
returns-else-is_silent-clause-trimmed c =
    let held = held_of c.args.group.now in
    let count = c.loop-count.count in
    let full : is_empty (block_of held (count - 1)) ≡ false =
    ap is_empty (sym (block_frames c.args.group.now.blocks (count - 1)) ∙ ap frames_of (sym c.block.ensures.cells))
    ∙ sym c.is_silent.ensures ∙ c.if-is_silent.false in
    trimmed_at held count c.loop-count-test.true full c.loop-count.invariant

pub returns-else-is_silent-clause-none : goal.returns-else-is_silent-clause-none
returns-else-is_silent-clause-none c =
    let held = held_of c.args.group.now in
    let count = c.loop-count.count in
    let full : is_empty (block_of held (count - 1)) ≡ false =
    ap is_empty (sym (block_frames c.args.group.now.blocks (count - 1)) ∙ ap frames_of (sym c.block.ensures.cells))
    ∙ sym c.is_silent.ensures ∙ c.if-is_silent.false in
    some_at held count c.loop-count-test.true full c.loop-count.invariant

pub returns-after-loop-count-clause-trimmed : goal.returns-after-loop-count-clause-trimmed
returns-after-loop-count-clause-trimmed c =
    let none = c.loop-count-test.false in
    trimmed_none (held_of c.args.group.now) c.loop-count.count (omega (arith, none)) c.loop-count.invariant

pub returns-after-loop-count-clause-none : goal.returns-after-loop-count-clause-none
returns-after-loop-count-clause-none c =
    let none = c.loop-count-test.false in
    none_at (held_of c.args.group.now) c.loop-count.count (omega (arith, none)) c.loop-count.invariant
