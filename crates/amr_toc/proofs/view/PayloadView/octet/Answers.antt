use Rattle.std.proofs.Common.{◌<◌, length, get_or, ap, sym, subst, ◌∙◌, arith, rules}
use Rattle.amr_bits.specs.Bits.{octets_for}
use Rattle.amr_bits.proofs.Runs.{length-run}
use Rattle.amr_toc.proofs.InView.{bit_stands, counted, in_listed, octet_counted, octet_few, octet_stands, octet_within}
use Rattle.amr_toc.proofs.view.PayloadView.octet.Goals as goal

pub octet_in-requires : goal.octet_in-requires
octet_in-requires c =
    let r = c.run_of.result in
    subst (λ n. c.args.octet < octets_for n) (sym (ap length c.run_of.ensures.bits) ∙ length-run r.octets.now r.start r.len) c.requires.octet

pub start_of-requires : goal.start_of-requires
start_of-requires c = in_listed c.args.self.now c.args.at c.requires.frame

pub overflow_add-result : goal.overflow_add-result
overflow_add-result c =
    omega (arith, octet_few c.args.self.now c.args.at c.args.octet c.requires.frame c.requires.octet)

pub bounds-self-start_of : goal.bounds-self-start_of
bounds-self-start_of c =
    (octet_stands c.args.self.now c.args.at c.args.octet c.start_of.result c.if-not-self.false c.if-not-self-2.true
    c.requires.frame c.requires.octet c.start_of.ensures).1

pub returns-then-not-self-2-clause-standing : goal.returns-then-not-self-2-clause-standing
returns-then-not-self-2-clause-standing c aligned =
    let there = octet_stands c.args.self.now c.args.at c.args.octet c.start_of.result aligned c.if-not-self-2.true
    c.requires.frame c.requires.octet c.start_of.ensures in
    ap (λ n. get_or c.args.self.now.octets.now n 0) there.0

pub sorted_octet-requires : goal.sorted_octet-requires
sorted_octet-requires c =
    let v = c.args.self.now in
    let counts = counted v c.args.at c.len.result c.octet_counts-counts.result c.requires.frame c.len.ensures.entries
    c.octet_counts-counts.ensures in
    record {
      sorted = search rules;
      counts = search rules;
      exists = octet_counted v c.args.at c.args.octet _ counts (octet_within v c.args.at c.args.octet c.requires.frame
          c.requires.octet);
    }

pub returns-then-not-self-2-clause-bits : goal.returns-then-not-self-2-clause-bits
returns-then-not-self-2-clause-bits c aligned i few inside =
    bit_stands c.args.self.now c.args.at c.args.octet i _ aligned c.requires.frame few inside
    (returns-then-not-self-2-clause-standing c aligned)

pub returns-clause-bits : goal.returns-clause-bits
returns-clause-bits c aligned i few inside =
    bit_stands c.args.self.now c.args.at c.args.octet i c.sorted_octet.result aligned c.requires.frame few inside
    c.sorted_octet.ensures
