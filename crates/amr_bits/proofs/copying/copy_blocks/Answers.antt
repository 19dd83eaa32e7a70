use Rattle.std.proofs.Common.{◌+◌, ◌*◌, ◌-◌, length, arith}
use Rattle.std.proofs.lemmas.List.FromFn.{fill_by_all}
use Rattle.amr_bits.specs.Bits.{number_at}
use Rattle.amr_bits.proofs.Copied.{block_more}
use Rattle.amr_bits.proofs.copying.copy_blocks.Goals as goal

pub loop-at-preserved : goal.loop-at-preserved
loop-at-preserved c = record {
  copied = block_more (λ k. number_at c.args.octets.now (8 * k + c.args.shift) 8) c.loop-at.out c.copy_block.new.out c.loop-at.at c.loop-at.at 16 (omega arith) c.loop-at.invariant.copied c.copy_block.ensures.before c.copy_block.ensures.copied;
}

pub returns : goal.returns
returns c =
    fill_by_all (λ k. number_at c.args.octets.now (8 * k + c.args.shift) 8) c.copy_block-2.new.out _ 0 (omega arith)
    (λ k l. block_more (λ k. number_at c.args.octets.now (8 * k + c.args.shift) 8) c.loop-at.out c.copy_block-2.new.out c.loop-at.at (length c.args.out.now - 16) 16 (omega arith) c.loop-at.invariant.copied c.copy_block-2.ensures.before c.copy_block-2.ensures.copied k (omega arith))
