use Rattle.std.proofs.Common.{ap, ◌∙◌, arith}
use Rattle.std.proofs.Math.ListN.{length-set}
use Rattle.amr_bits.specs.Bits.{bits_at}
use Rattle.amr_toc.specs.Viewed.{standing}
use Rattle.payload_laws.proofs.Formats.{aligned_of}
use Rattle.amr_toc.proofs.InView.{counted, in_said}
use Rattle.amr_toc.proofs.Shown.{length_bits}
use Rattle.amr_toc.proofs.Sizes.{set_more}
use Rattle.amr_toc.proofs.Standing.{gathered_bits}
use Rattle.amr_toc.proofs.view.PayloadView.gathered.Goals as goal

pub bounds-counts-at : goal.bounds-counts-at
bounds-counts-at c =
    (counted c.args.self.now c.args.at c.len.result c.octet_counts-counts.result c.requires.frame c.len.ensures.entries
    c.octet_counts-counts.ensures).exists

pub bounds-octets-octet : goal.bounds-octets-octet
bounds-octets-octet c =
    let counts = counted c.args.self.now c.args.at c.len.result c.octet_counts-counts.result c.requires.frame
    c.len.ensures.entries c.octet_counts-counts.ensures in
    omega (arith, counts.few, c.loop-octet-test.true)

pub loop-octet-preserved : goal.loop-octet-preserved
loop-octet-preserved c =
    let counts = counted c.args.self.now c.args.at c.len.result c.octet_counts-counts.result c.requires.frame
    c.len.ensures.entries c.octet_counts-counts.ensures in
    let size = c.loop-octet.invariant.0 in (
      length-set c.loop-octet.octets c.loop-octet.octet c.sorted_octet.result ∙ size,
      set_more c.loop-octet.octets (standing c.args.self.now c.args.at) c.loop-octet.octet c.sorted_octet.result
          (omega (arith, counts.few, c.loop-octet-test.true)) c.sorted_octet.ensures c.loop-octet.invariant.1,
    )

pub returns : goal.returns
returns c =
    let v = c.args.self.now in
    let counts = counted v c.args.at c.len.result c.octet_counts-counts.result c.requires.frame c.len.ensures.entries
    c.octet_counts-counts.ensures in
    let k = in_said v c.args.at c.requires.frame in
    let done = c.loop-octet-test.false in
    ap (bits_at c.loop-octet.octets 0) (length_bits v.profile v.octets.now c.args.at k)
    ∙ gathered_bits v.profile v.octets.now c.loop-octet.octets c.args.at
    ((aligned_of v.profile v.valid).sorting c.requires.sorted) k
    (λ o h. c.loop-octet.invariant.1 o (omega (arith, counts.exact)))
