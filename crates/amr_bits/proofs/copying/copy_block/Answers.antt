use Rattle.std.proofs.Common.{◌≡◌, ◌+◌, ◌*◌, ◌-◌, get_or, ap, ◌∙◌, arith}
use borrow.Rule.Slice.PartMut.{post_of}
use Rattle.amr_bits.specs.Bits.{number_at}
use Rattle.amr_bits.proofs.Copied.{put_block}
use Rattle.amr_bits.proofs.copying.copy_block.Goals as goal

pub returns-clause-copied : goal.returns-clause-copied
returns-clause-copied c = λ k low high.
    let octets = c.args.octets.now in
    let made : c.copy_from_slice.new.self ≡ c.block_at.result = c.copy_from_slice.ensures.after in
    put_block (λ k. number_at octets (8 * k + c.args.shift) 8) c.args.out.now c.copy_from_slice.new.self
    (post_of c.args.at (c.args.at + 16 - c.args.at) c.args.out.now)
    c.args.at 16 k (omega arith) (omega arith) low high (λ j l. ap (λ xs. get_or xs j 0) made ∙ c.block_at.ensures j l)
