use Rattle.std.proofs.Common.{◌≡◌, ◌+◌, ◌*◌, ◌/◌, ◌%◌, refl, ap, sym, ◌∙◌, arith}
use Rattle.amr_bits.specs.Bits.{number, bits_at}
use Rattle.amr_bits.proofs.Runs.{length-run, run-split, run-part}
use Rattle.spec_payload.specs.FrameCrc.{crc_of}
use Rattle.amr_guard.proofs.crc.crc8.Goals as goal

pub returns : goal.returns
returns c =
    let octets = c.args.bits.octets.now in
    let start = c.args.bits.start in
    let rest = c.args.bits.len % 8 in
    let done = 8 * (c.args.bits.len / 8) in
    let size : c.args.bits.len ≡ done + rest = omega arith in
    let next = bits_at octets (start + done) rest in
    let value : number next ≡ c.number.result = ap number (sym (run-part octets start done rest c.args.bits.len (omega arith))) ∙ sym c.number.ensures.bits in
    c.after_bits.ensures (bits_at octets start done) next (sym c.crc_of_whole.ensures) (length-run octets (start + done) rest) value
    ∙ ap (λ w. number (crc_of w)) (sym (run-split octets start done rest (start + done) refl) ∙ ap (bits_at octets start) (sym size))
