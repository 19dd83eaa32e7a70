use Rattle.amr_toc.proofs.InView.{run_stands}
use Rattle.amr_toc.proofs.view.PayloadView.run_from.Goals as goal

pub invariant_of-result : goal.invariant_of-result
invariant_of-result c =
    let there = run_stands c.args.self.now c.args.at c.args.ft c.args.start c.bits_of.result c.requires.kind
    c.requires.place.0 c.requires.place.1 c.bits_of.ensures in
    record { within = there.0 }

pub returns-clause-run : goal.returns-clause-run
returns-clause-run c =
    let there = run_stands c.args.self.now c.args.at c.args.ft c.args.start c.bits_of.result c.requires.kind
    c.requires.place.0 c.requires.place.1 c.bits_of.ensures in
    record { kind = c.requires.kind; bits = there.1; len = c.bits_of.ensures }
