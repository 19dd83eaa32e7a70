use Rattle.std.proofs.Common.{◌≡◌, ◌+◌, ◌*◌, ◌/◌, ◌%◌, arith, sym, ap, ◌∙◌}
use Rattle.std.proofs.lemmas.List.{take_rest}
use Rattle.amr_bits.specs.Bits.{number, number_at}
use Rattle.amr_bits.proofs.Runs.{run-drop, run-part}
use Rattle.amr_bits.proofs.slice.BitSlice.number.Goals as goal

pub returns-clause-bits : goal.returns-clause-bits
returns-clause-bits c =
    let octets = c.args.self.now.octets.now in
    let start = c.args.self.now.start in
    let from = c.args.from in
    let place = start % 8 + from % 8 in
    let j = start / 8 + from / 8 + place / 8 in
    let there : start + from ≡ place % 8 + 8 * j = omega arith in
    c.number_from.ensures.spelt.bits ∙ ap (λ l. number_at l (place % 8) c.args.width) (take_rest octets j)
    ∙ ap number (run-drop octets j (place % 8) (start + from) c.args.width there ∙ sym (run-part octets start from c.args.width c.args.self.now.len c.requires.fits))
