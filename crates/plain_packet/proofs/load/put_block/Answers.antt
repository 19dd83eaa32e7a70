use Rattle.std.proofs.Common.{◌≡◌, ℕ, ◌+◌, ◌-◌, cond, ltb, get_or, ap, ◌∙◌, arith}
use borrow.Rule.Slice.PartMut.{post_of}
use Rattle.amr_bits.proofs.Copied.{put_block}
use Rattle.plain_packet.specs.Plain.{octet_in}
use Rattle.plain_packet.proofs.load.put_block.Goals as goal

pub returns-clause-made : goal.returns-clause-made
returns-clause-made c = λ k low high.
    let payload = c.args.payload.now in
    let full = c.args.full in
    let out = c.args.out.now in
    let at = c.args.at in
    let f = λ (j : ℕ). cond (ltb j full) (octet_in payload j) 0 in
    let room = c.requires.out in
    let made : c.copy_from_slice.new.self ≡ c.block_at.result = c.copy_from_slice.ensures.after in
    put_block f out c.copy_from_slice.new.self
    (post_of at (at + 16 - at) out) at 16 k (omega arith) (omega arith) low high
    (λ j l. ap (λ xs. get_or xs j 0) made ∙ c.block_at.ensures j l)
