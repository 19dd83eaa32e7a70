use Rattle.std.proofs.Common.{◌≡◌, length, sym, ap, ◌∙◌, arith}
use Rattle.amr_bits.specs.Bits.{bits_at}
use Rattle.amr_bits.specs.Runs.{kept}
use Rattle.amr_bits.proofs.Runs.{length-run}
use Rattle.amr_bits.proofs.Equal.{same_everywhere, same_value}
use Rattle.amr_bits.proofs.fixed.FixedBits.equal_by_bits.Goals as goal

pub returns : goal.returns
returns g c =
    let a = c.args.self.now in
    let b = c.args.other.now in (
      λ e. ap kept e,
      λ e.
          let size : a.len ≡ b.len = sym (length-run a.octets 0 a.len) ∙ ap length e ∙ length-run b.octets 0 b.len in
          let bits : bits_at a.octets 0 a.len ≡ bits_at b.octets 0 a.len = e ∙ ap (bits_at b.octets 0) (sym size) in
          let all = same_everywhere a.octets b.octets a.len bits a.clear (λ k l. b.clear k (omega arith)) in
          same_value a b (c.octets_by_bits.ensures (omega arith) all) size,
    )
