use Rattle.std.proofs.Common.{[], ◌∷◌, ◌++◌, map, subst, sym}
use Rattle.rtp_packet.specs.Written.{written}
use Rattle.spec_sending.specs.Plans.{IsPlan}
use Rattle.spec_sending.specs.Sending.{begun}
use Rattle.spec_sending.specs.declared.plan.SendPlan.{SendPlan}
use Rattle.amr_frame.specs.Blocks.{frames_of}
use Rattle.trial_engine.proofs.Ran.{block_never_fails, put_more}
use Rattle.trial_engine.specs.Lines.{IsOn}
use Rattle.trial_engine.proofs.run.send_block.Goals as goal

pub unreachable-requires : goal.unreachable-requires
unreachable-requires c =
    let sent = c.requires.sending in
    let has = sent.3 in
    let part = c.in_default.ensures.part.part sent.2 has.stands in
    block_never_fails sent.0 sent.1 c.args.sender.now c.args.line.now c.put_block.new.out sent.2 (frames_of c.args.block.now)
    has c.requires.few c.in_default.ensures.step.ready part.packets part.more_by part.got

pub returns : goal.returns
returns c =
    let taken = c.in-Ok.ensures.taken in
    let block = frames_of c.args.block.now in
    let plan = c.put_block.ensures.plan in
    let old = c.args.sender.now in
    let line = c.put_block.new.out in
    record {
      plan = plan;
      count = taken.blocks;
      goes = λ job seed blocks sent.
          let out = taken.out blocks sent.stands in record {
            plan = subst IsPlan (sym plan) sent.plan;
            stands = taken.stands blocks sent.stands;
            on = subst (λ (s : SendPlan). IsOn job seed line (map written (begun s (blocks ++ block ∷ [])))) (sym plan)
                (put_more job seed c.args.line.now line (begun old.plan blocks) (begun old.plan (blocks ++ block ∷ [])) out.packets
                out.more_by out.got sent.on);
          };
    }
