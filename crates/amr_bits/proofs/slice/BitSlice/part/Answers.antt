use Rattle.std.proofs.Common.{◌≡◌, ◌+◌, ◌*◌, ◌/◌, ◌%◌, arith, sym, ap, ◌∙◌}
use Rattle.std.proofs.lemmas.List.{take_rest}
use Rattle.amr_bits.specs.Bits.{bits_at}
use Rattle.amr_bits.proofs.Runs.{run-drop, run-part}
use Rattle.amr_bits.proofs.slice.BitSlice.part.Goals as goal

pub returns-clause-bits : goal.returns-clause-bits
returns-clause-bits c =
    let octets = c.args.self.now.octets.now in
    let start = c.args.self.now.start in
    let from = c.args.from in
    let j = start / 8 + from / 8 in
    let place : start + from ≡ (start % 8 + from % 8) + 8 * j = omega arith in
    ap (λ l. bits_at l (start % 8 + from % 8) c.args.len) (take_rest octets j)
    ∙ run-drop octets j (start % 8 + from % 8) (start + from) c.args.len place
    ∙ sym (run-part octets start from c.args.len c.args.self.now.len c.requires)
