use Rattle.std.proofs.Common.{sym, ◌∙◌, arith}
use Rattle.amr_frame.specs.Tables.{bits_in}
use Rattle.amr_toc.specs.declared.entry.Entry.{Entry}
use Rattle.amr_toc.specs.Lists.{listed}
use Rattle.amr_toc.proofs.Sizes.{bits_to, few_entries, most_bits, summed}
use Rattle.amr_toc.proofs.counts.bits_before.Goals as goal

pub overflow_add-bits : goal.overflow_add-bits
overflow_add-bits c =
    let few = few_entries c.args.toc.now c.loop-k.k (omega arith) in
    omega (arith, most_bits c.args.profile.now.codec c.entry.result.ft, c.bits_of-bits.ensures, c.loop-k.invariant.1)

pub returns-clause-bits : goal.returns-clause-bits
returns-clause-bits c =
    let codec = c.args.profile.now.codec in
    summed (λ (e : Entry). bits_in codec e.ft) c.args.toc.now c.loop-k.k c.args.at c.loop-k.bits c.loop-k.invariant.0
    (omega arith)
    ∙ sym (bits_to codec (listed c.args.toc.now) c.args.at)
