use Rattle.std.proofs.Common.{sym, ◌∙◌, arith}
use Rattle.amr_frame.specs.Tables.{octets_in}
use Rattle.amr_toc.specs.declared.entry.Entry.{Entry}
use Rattle.amr_toc.specs.Lists.{listed}
use Rattle.amr_toc.proofs.Sizes.{octets_to, few_entries, most_octets, summed}
use Rattle.amr_toc.proofs.counts.octets_before.Goals as goal

pub overflow_add-octets : goal.overflow_add-octets
overflow_add-octets c =
    let few = few_entries c.args.toc.now c.loop-k.k (omega arith) in
    omega (
      arith,
      most_octets c.args.profile.now.codec c.entry.result.ft,
      c.octets_of-octets.ensures,
      c.loop-k.invariant.1,
    )

pub returns-clause-octets : goal.returns-clause-octets
returns-clause-octets c =
    let codec = c.args.profile.now.codec in
    summed (λ (e : Entry). octets_in codec e.ft) c.args.toc.now c.loop-k.k c.args.at c.loop-k.octets
    c.loop-k.invariant.0 (omega arith)
    ∙ sym (octets_to codec (listed c.args.toc.now) c.args.at)
