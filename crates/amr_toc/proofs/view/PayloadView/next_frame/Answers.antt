use Rattle.std.proofs.Common.{arith}
use Rattle.amr_toc.proofs.InView.{begins_behind, check_behind, few_before}
use Rattle.amr_toc.proofs.view.PayloadView.next_frame.Goals as goal

pub overflow_add-walk : goal.overflow_add-walk
overflow_add-walk g c =
    let before = few_before c.args.self.now c.args.at c.requires.frame in
    omega (arith, c.room_of.ensures.most, c.requires.stands.few)

pub overflow_add-walk-2 : goal.overflow_add-walk-2
overflow_add-walk-2 g c =
    let before = few_before c.args.self.now c.args.at c.requires.frame in
    omega (arith, c.checks_of.ensures.most, c.requires.stands.few_checks)

pub returns-then-not-self-clause-stands : goal.returns-then-not-self-clause-stands
returns-then-not-self-clause-stands g c = record {
  start = begins_behind c.args.self.now c.args.at c.entry-entry.result.ft _ _ c.entry-entry.ensures.entry.kind
      c.requires.stands.start c.room_of.ensures.room;
  few = omega (arith, c.room_of.ensures.most, c.requires.stands.few);
  check = check_behind c.args.self.now c.args.at c.entry-entry.result.ft _ _ c.entry-entry.ensures.entry.kind
      c.requires.stands.check c.checks_of.ensures.checks;
  few_checks = omega (arith, c.checks_of.ensures.most, c.requires.stands.few_checks);
  rows = λ sorted. (let plain = c.if-not-self.true in absurd cc);
}

pub returns-clause-stands : goal.returns-clause-stands
returns-clause-stands g c = record {
  start = begins_behind c.args.self.now c.args.at c.entry-entry.result.ft _ _ c.entry-entry.ensures.entry.kind
      c.requires.stands.start c.room_of.ensures.room;
  few = omega (arith, c.room_of.ensures.most, c.requires.stands.few);
  check = check_behind c.args.self.now c.args.at c.entry-entry.result.ft _ _ c.entry-entry.ensures.entry.kind
      c.requires.stands.check c.checks_of.ensures.checks;
  few_checks = omega (arith, c.checks_of.ensures.most, c.requires.stands.few_checks);
  rows = λ sorted. c.next_sorted.ensures.rows;
}
