use Rattle.std.proofs.Common.{◌≡◌, ◌+◌, ◌*◌, ◌-◌, get_or, ap, ◌∙◌, arith}
use borrow.Rule.Slice.PartMut.{post_of}
use Rattle.amr_bits.specs.Bits.{number_at}
use Rattle.amr_bits.proofs.Copied.{put_block}
use Rattle.amr_sender.proofs.single.put_block.Goals as goal

pub returns-clause-copied : goal.returns-clause-copied
returns-clause-copied c = λ k low high.
    let unit = c.args.unit.now in
    let out = c.args.out.now in
    let at = c.args.at in
    let place = 13 + at in
    let room = c.requires.room in
    let made : c.copy_from_slice.new.self ≡ c.block_at.result = c.copy_from_slice.ensures.after in
    let back : 13 + k - 13 ≡ k = omega arith in
    put_block (λ j. number_at unit (8 * (j - 13) + 6) 8) out c.copy_from_slice.new.self
    (post_of place (place + 16 - place) out) place 16 (13 + k) (omega arith) (omega arith) (omega (arith, low))
    (omega (arith, high))
    (λ j l. ap (λ xs. get_or xs j 0) made ∙ c.block_at.ensures j l
    ∙ ap (λ p. number_at unit (8 * p + 6) 8) (let e : at + j ≡ place + j - 13 = omega arith in e))
    ∙ ap (λ p. number_at unit (8 * p + 6) 8) back
