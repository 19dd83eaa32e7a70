use Rattle.std.proofs.Common.{◌≡◌, refl, subst, arith}
use Rattle.record_hearing.proofs.Results.{on_err_then, on_ok_then}
use Rattle.record_hearing.proofs.Tallying.{counted_right}
use Rattle.record_hearing.specs.Hearing.{among}
use Rattle.amr_playout.specs.Plans.{rules_in}
use Rattle.amr_playout.specs.declared.plan.Plan.{Plan}
use Rattle.spec_segments.specs.Counts.{copy_count, late_count}
use Rattle.record_hearing.proofs.listener.Listener.finish.Goals as goal

pub returns-clause-ended : goal.returns-clause-ended
returns-clause-ended g c =
    let job = c.args.self.now.job in
    let v = c.args.self.now.receiver in
    on_ok_then _ _ c.end_session.result
    (λ ended. record {
      out = λ hs s. ended.out (among job hs) s.heard;
      counts = λ hs s.
          let h = among job hs in
          counted_right job c.args.self.now.tally v.counts c.end_session.new.receiver.counts hs h refl s.tallied
          (subst (λ (p : Plan). v.counts.late ≡ late_count (rules_in p) h) c.args.self.now.served.plan s.heard.counted.late)
          (subst (λ (p : Plan). v.counts.copies ≡ copy_count (rules_in p) h) c.args.self.now.served.plan s.heard.counted.copies)
          ended.late ended.copies (ended.blocks h s.heard);
      few = λ hs s.
          let few = ended.few in
          let all = ended.blocks (among job hs) s.heard in
          omega (arith, few, all);
    })
    c.end_session.ensures.ended

pub returns-clause-part : goal.returns-clause-part
returns-clause-part g c =
    on_err_then _ _ c.end_session.result (λ part. record { out = λ hs s. part.out (among c.args.self.now.job hs) s.heard }) c.end_session.ensures.part
