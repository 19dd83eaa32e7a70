use Rattle.std.proofs.Common.{◌≡◌, ℕ, ◌+◌, ◌*◌, ◌-◌, ◌/◌, ◌%◌, ◌^◌, ◌<◌, get_or, sym, ap, ◌∙◌, arith}
use borrow.Rule.Slice.PartMut.{post_of}
use Rattle.amr_bits.specs.Bits.{number_at}
use Rattle.amr_bits.proofs.Copied.{put_front, put_last, put_within, put_before}
use Rattle.amr_bits.proofs.Places.{number_at-across}
use Rattle.amr_bits.proofs.copying.copy_word.Goals as goal

pub returns-clause-copied : goal.returns-clause-copied
returns-clause-copied c = λ k low high.
    let octets = c.args.octets.now in
    let at = c.args.at in
    let s = c.args.shift in
    let small : (i : ℕ) → get_or octets i 0 < 256 = λ i. omega (arith, c.type_inv.octets i) in
    let made : c.copy_from_slice.new.self ≡ c.word_at.result = c.copy_from_slice.ensures.after in
    let next : at + 8 ≡ at + 7 + 1 = omega arith in
    let last : c.across.result ≡ number_at octets (8 * (at + 7) + s) 8 =
    c.across.ensures ∙ ap (λ i. (256 * get_or octets (at + 7) 0 + get_or octets i 0) / 2 ^ (8 - s) % 256) next ∙ sym (number_at-across octets (at + 7) s (omega arith) (small (at + 7)) (small (at + 7 + 1))) in
    put_last (λ k. number_at octets (8 * k + s) 8) _ at 7 c.across.result k (put_within c.args.out.now c.copy_from_slice.new.self (post_of at (at + 8 - at) c.args.out.now) at 8 7 (omega arith) (omega arith) (omega arith)) last
    (λ i low high. put_front (λ k. number_at octets (8 * k + s) 8) c.args.out.now c.copy_from_slice.new.self
    (post_of at (at + 8 - at) c.args.out.now)
    at 8 7 i (omega arith) (omega arith) (omega arith) low high (λ j l. ap (λ xs. get_or xs j 0) made ∙ c.word_at.ensures j l)) low high

pub returns-clause-before : goal.returns-clause-before
returns-clause-before c = λ k h. put_before c.args.out.now c.copy_from_slice.new.self _ c.args.at 7 c.across.result k (omega arith) h
