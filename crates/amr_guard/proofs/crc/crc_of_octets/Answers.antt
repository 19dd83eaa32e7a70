use Rattle.std.proofs.Common.{◌≡◌, ℕ, ◌+◌, ◌*◌, ◌++◌, length, get_or, ap, sym, ◌∙◌, arith}
use Rattle.std.proofs.Math.Nat.{mod-eq_of_lt}
use Rattle.amr_bits.specs.Bits.{nat, number, bits_at}
use Rattle.amr_bits.proofs.Numbers.{number-nat, length-nat}
use Rattle.amr_bits.proofs.Runs.{run-split, run-octet, run-all}
use Rattle.spec_payload.specs.FrameCrc.{crc_of}
use Rattle.amr_guard.proofs.crc.crc_of_octets.Goals as goal

pub loop-octet-preserved : goal.loop-octet-preserved
loop-octet-preserved c =
    let octets = c.args.octets.now in
    let k = c.loop-octet.octet-index in
    let size : 8 * (k + 1) ≡ 8 * k + 8 = omega arith in
    let value = get_or octets k 0 in
    let next = nat 8 value in
    let spelled : number next ≡ value = number-nat 8 value ∙ mod-eq_of_lt (omega (arith, c.type_inv.octets k)) in
    c.after_octet-register.ensures (bits_at octets 0 (8 * k)) next (sym c.loop-octet.invariant) (length-nat 8 value) spelled
    ∙ ap (λ w. number (crc_of w)) (ap (λ w. bits_at octets 0 (8 * k) ++ w) (sym (run-octet octets k)) ∙ sym (run-split octets 0 (8 * k) 8 (8 * k) (omega arith)) ∙ ap (bits_at octets 0) (sym size))

pub returns : goal.returns
returns c =
    let octets = c.args.octets.now in
    let all : c.loop-octet.octet-index ≡ length octets = omega arith in
    c.loop-octet.invariant ∙ ap (λ w. number (crc_of w)) (ap (λ (k : ℕ). bits_at octets 0 (8 * k)) all ∙ run-all octets)
