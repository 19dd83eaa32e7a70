use Rattle.std.proofs.Common.{◌≡◌, ap, sym, subst, arith}
use Rattle.record_hearing.proofs.Carried.{told_at}
use Rattle.amr_playout.specs.Gains.{Gains, GainsPart}
use Rattle.amr_playout.specs.Plans.{rules_in}
use Rattle.amr_playout.specs.Steps.{TakesPlan}
use Rattle.amr_playout.specs.declared.answers.Kept.{Kept}
use Rattle.amr_playout.specs.declared.plan.Plan.{Plan}
use Rattle.spec_segments.specs.Counts.{block_count}
use Rattle.spec_segments.specs.Release.{gone_out, released}
use Rattle.record_hearing.proofs.hear.end_session.Goals as goal

pub finish-requires-clause-sink : goal.finish-requires-clause-sink
finish-requires-clause-sink g c =
    subst (λ (p : Plan). TakesPlan g.B.BlockSink p c.args.out.now) (sym c.requires.served.plan) c.requires.sink

pub returns-in-Ok-clause-ended : goal.returns-in-Ok-clause-ended
returns-in-Ok-clause-ended g c =
    let new = c.in-Ok.ensures.finished in
    let plan = c.requires.served.plan in
    record {
      out = λ h stands.
          told_at (Gains g.B.BlockSink.whole _ _) (λ (p : Plan). gone_out (rules_in p) h) (λ (p : Plan). released (rules_in p) h) c.args.receiver.now.plan c.args.job.now.plan plan (new.out h stands);
      late = ap (λ k. k.late) new.counts;
      copies = ap (λ k. k.copies) new.counts;
      blocks = λ h stands.
          subst (λ (p : Plan). c.finish.new.self.counts.blocks ≡ block_count (rules_in p) h) plan (new.all h stands);
      few =
          let few = new.few in
          let counted = ap (λ (k : Kept). k.blocks) new.counts in
          let window = ap (λ (p : Plan). p.window) plan in
          omega (arith, few, counted, window);
    }

pub returns-in-Err-clause-part : goal.returns-in-Err-clause-part
returns-in-Err-clause-part g c = record {
  out = λ h stands.
      told_at (GainsPart g.B.BlockSink.whole g.B.BlockSink.part _ _) (λ (p : Plan). gone_out (rules_in p) h) (λ (p : Plan). released (rules_in p) h) c.args.receiver.now.plan c.args.job.now.plan c.requires.served.plan (c.in-Err.ensures.part.part h stands);
}
