use Rattle.trial_engine.proofs.Taped.{heard_more}
use Rattle.trial_engine.proofs.tape.Tape.deliver.Goals as goal

pub returns : goal.returns
returns c =
    let old = c.args.self.now in
    let heard = c.in-Ok.ensures.heard in
    record {
      job = c.hear.ensures.job;
      count = heard.one;
      recorded = λ records r. record {
        heard = heard.stands records r.heard;
        sums = heard_more old.listener c.hear.new.self old.file c.hear.new.out records c.args.packet.now c.hear.ensures.job
            heard r.heard r.sums;
      };
    }
