use Rattle.std.proofs.Common.{◌≡◌, ◌+◌, ◌*◌, refl, ap, sym, ◌∙◌, arith}
use Rattle.amr_bits.specs.Bits.{number, bits_at}
use Rattle.amr_bits.proofs.Runs.{length-run, run-split, run-part}
use Rattle.spec_payload.specs.FrameCrc.{crc_of}
use Rattle.amr_guard.proofs.crc.crc_across.Goals as goal

pub loop-at-preserved : goal.loop-at-preserved
loop-at-preserved c =
    let octets = c.args.bits.octets.now in
    let start = c.args.bits.start in
    let done = 8 * c.loop-at.at in
    let size : 8 * (c.loop-at.at + 1) ≡ done + 8 = omega arith in
    let next = bits_at octets (start + done) 8 in
    let value : number next ≡ c.number.result = ap number (sym (run-part octets start done 8 c.args.bits.len (omega arith))) ∙ sym c.number.ensures.bits in
    c.after_octet-crc.ensures (bits_at octets start done) next (sym c.loop-at.invariant) (length-run octets (start + done) 8) value
    ∙ ap (λ w. number (crc_of w)) (sym (run-split octets start done 8 (start + done) refl) ∙ ap (bits_at octets start) (sym size))
