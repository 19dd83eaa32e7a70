use Rattle.std.proofs.Common.{arith}
use Rattle.amr_toc.specs.Lists.{listed, types_of}
use Rattle.amr_toc.proofs.InView.{check_begins}
use Rattle.amr_toc.proofs.Walking.{walk_begins}
use Rattle.amr_toc.proofs.view.PayloadView.walk.Goals as goal

pub returns-then-not-self : goal.returns-then-not-self
returns-then-not-self g c =
    let v = c.args.self.now in
    let none = walk_begins v.profile (types_of (listed v.toc)) in
    let short = v.short in
    let head = c.header_octets.ensures in
    let count = c.len.ensures in
    record {
      start = omega arith;
      few = omega arith;
      check = check_begins v _ (omega (arith, head.octets, count.entries));
      few_checks = omega (arith, head.most, count.few.1);
      rows = λ sorted. (let plain = c.if-not-self.true in absurd cc);
    }

pub returns : goal.returns
returns g c =
    let v = c.args.self.now in
    let none = walk_begins v.profile (types_of (listed v.toc)) in
    let short = v.short in
    let head = c.header_octets.ensures in
    let count = c.len.ensures in
    record {
      start = omega arith;
      few = omega arith;
      check = check_begins v _ (omega (arith, head.octets, count.entries));
      few_checks = omega (arith, head.most, count.few.1);
      rows = λ sorted. c.begin_rows.ensures;
    }
