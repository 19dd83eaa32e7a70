use Rattle.std.proofs.Common.{ap, sym, ◌∙◌, arith}
use Rattle.amr_bits.specs.Bits.{bits_at}
use Rattle.amr_frame.specs.Tables.{bits_in}
use Rattle.amr_toc.proofs.InView.{in_said}
use Rattle.amr_toc.proofs.Sizes.{most_bits}
use Rattle.amr_toc.proofs.Valued.{known}
use Rattle.amr_toc.proofs.view.PayloadView.run_in.Goals as goal

pub invariant_of-result : goal.invariant_of-result
invariant_of-result c =
    let few = most_bits c.args.self.now.profile.codec c.args.ft in
    let size = c.bits_of.ensures in
    record { within = omega arith }

pub returns : goal.returns
returns c =
    let v = c.args.self.now in
    let k = in_said v c.args.at c.requires.kind.exists in
    let n = c.bits_of.ensures ∙ ap (bits_in v.profile.codec) c.requires.kind.as_said ∙ sym (known v.profile v.octets.now c.args.at v.accepted k).size in
    record { kind = c.requires.kind; bits = ap (bits_at c.args.gathered.now 0) n ∙ c.requires.gathered; len = c.bits_of.ensures }
