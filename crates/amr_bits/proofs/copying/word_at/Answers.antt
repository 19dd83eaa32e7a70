use Rattle.std.proofs.Common.{ℕ, ◌<◌, get_or, ap, ◌∙◌, arith}
use Rattle.amr_bits.proofs.Words.{word_read, word_octets}
use Rattle.amr_bits.proofs.copying.word_at.Goals as goal

pub returns : goal.returns
returns c = λ k h.
    let octets = c.args.octets.now in
    let small : (i : ℕ) → get_or octets i 0 < 256 = λ i. omega (arith, c.type_inv.octets i) in
    let front = word_read octets c.args.at c.from_be_bytes-front.result small c.from_be_bytes-front.ensures in
    ap (λ xs. get_or xs k 0) c.to_be_bytes.ensures ∙ word_octets octets c.args.at c.args.shift c.from_be_bytes-front.result k c.requires.shift.above c.requires.shift.below front h
