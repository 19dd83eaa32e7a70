use Rattle.std.proofs.Common.{◌≡◌, ◌+◌, ◌*◌, [], ap, get_or, ◌∙◌, arith}
use Rattle.amr_group.proofs.Buffered.{all_copied, copied}
use Rattle.amr_group.specs.Buffer.{View}
use Rattle.amr_group.proofs.buffer.GroupBuffer.packet.Goals as goal

pub loop-k-preserved : goal.loop-k-preserved
loop-k-preserved c =
    let v = c.args.self.now in
    let l = ap (λ (o : View). o.plan.length) c.self.view_is in
    let at : c.from.result + c.from-in-loop-k.result * c.from-in-loop-k-2.result ≡ c.args.index + c.loop-k.k * v.plan.length
    = λ i. c.from.ensures i + c.from-in-loop-k.ensures i * (c.from-in-loop-k-2.ensures ∙ l) i in
    record {
      size = c.copy_block.ensures.size ∙ c.loop-k.invariant.size;
      front = copied v c.loop-k.out c.copy_block.new.out c.block.result.now c.args.index c.loop-k.k
          c.block.ensures.present c.loop-k.invariant.front
          (c.block.ensures.cells ∙ ap (λ k. get_or v.blocks k []) at)
          c.copy_block.ensures.front;
    }

pub returns-clause-present : goal.returns-clause-present
returns-clause-present c =
    let v = c.args.self.now in
    let blocks = ap (λ (o : View). o.plan.blocks) c.self.view_is in
    let low = c.loop-k-test.false in
    let high = c.loop-k.auto.k-end in
    all_copied c.self.inside v c.loop-k.out c.loop-k.k c.args.index c.self.invariant c.self.view_is c.requires.full
    c.requires.index (omega (arith, blocks, low, high)) c.loop-k.invariant.size c.loop-k.invariant.front
