use Rattle.std.proofs.Common.{◌≡◌, ℕ, ◌+◌, ◌-◌, ◌/◌, take, drop, ap, ◌∙◌, arith}
use Rattle.amr_bits.specs.Bits.{number, bits_of}
use Rattle.spec_payload.specs.FrameCrc.{crc_of}
use Rattle.amr_guard.proofs.Whole.{run_of_octets}
use Rattle.amr_guard.proofs.crc.crc_of_whole.Goals as goal

pub returns-then-bits-eq0 : goal.returns-then-bits-eq0
returns-then-bits-eq0 c =
    let octets = c.args.bits.octets.now in
    let first = c.args.bits.start / 8 in
    let whole = c.args.bits.len / 8 in
    let count : first + whole - first ≡ whole = omega arith in
    c.crc_of_octets.ensures ∙ ap (λ (k : ℕ). number (crc_of (bits_of (take k (drop first octets))))) count
    ∙ ap (λ w. number (crc_of w)) (run_of_octets octets first whole c.args.bits.start (omega (arith, c.if-bits-eq0.true)) (omega (arith, c.args.bits.within)))
