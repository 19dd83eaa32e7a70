use Rattle.std.proofs.Common.{◌≡◌, ◌≤◌, ◌∙◌, arith, subst, sym, rules}
use Rattle.std.proofs.lemmas.List.{length-take-le}
use Rattle.amr_frame.specs.Blocks.{IsPresentBlock, frames_of}
use Rattle.spec_sending.specs.declared.plan.SendPlan.{SendPlan}
use Rattle.spec_trial.specs.Blocks.{blocks_made, made_from, none_made}
use Rattle.trial_engine.proofs.Rows.{blocks_next, state_first, state_next}
use Rattle.trial_engine.specs.Jobs.{recording_job}
use Rattle.trial_engine.specs.Running.{HasSent}
use Rattle.trial_engine.proofs.run.send_blocks.Goals as goal

pub making-init : goal.making-init
making-init c =
    let job = c.args.job.now in
    let p = job.send.profile in
    let few : c.from.result ≤ 6 = search rules in
    record {
      plan = c.requires.plan;
      count = c.requires.none.stands.blocks;
      cells = length-take-le c.from.result _ few ∙ c.from.ensures;
      drawn = c.new-draws.ensures ∙ state_first p.codec p.channels job.seed;
      sent = c.requires.none;
    }

pub send_block-requires-clause-sending : goal.send_block-requires-clause-sending
send_block-requires-clause-sending c =
    let job = c.args.job.now in
    let p = job.send.profile in
    (recording_job job, job.seed, blocks_made p.codec p.channels job.seed c.making.counter, c.making.invariant.sent)

pub send_block-requires-clause-few : goal.send_block-requires-clause-few
send_block-requires-clause-few c = let count = c.making.invariant.count in omega (arith, count)

pub send_block-requires-clause-block : goal.send_block-requires-clause-block
send_block-requires-clause-block c =
    let p = c.args.job.now.send.profile in
    let cells = c.make_block.new.cells in
    subst (λ (s : SendPlan). IsPresentBlock s.profile.codec s.profile.channels cells) (sym c.making.invariant.plan)
    (subst (λ n. IsPresentBlock p.codec n cells) c.making.invariant.cells c.make_block.ensures.block)

pub making-preserved : goal.making-preserved
making-preserved c =
    let job = c.args.job.now in
    let p = job.send.profile in
    let inv = c.making.invariant in
    let made = c.make_block.ensures in
    let x = c.making.draws.state in
    let count = c.send_block.ensures.count in
    let before = inv.count in
    let block = frames_of c.make_block.new.cells in
    record {
      plan = c.send_block.ensures.plan ∙ inv.plan;
      count = omega (arith, count, before);
      cells = c.make_block.auto.cells ∙ inv.cells;
      drawn = state_next p.codec p.channels job.seed c.making.counter x c.make_block.new.draws.state inv.drawn
          (subst (λ n. (made_from p.codec (none_made x) n).state ≡ c.make_block.new.draws.state) inv.cells made.state);
      sent = subst (HasSent (recording_job job) job.seed c.send_block.new.sender c.send_block.new.line)
          (sym (blocks_next p.codec p.channels job.seed c.making.counter x block inv.drawn
          (subst (λ n. (made_from p.codec (none_made x) n).frames ≡ block) inv.cells made.frames)))
          (c.send_block.ensures.goes (recording_job job) job.seed
          (blocks_made p.codec p.channels job.seed c.making.counter) inv.sent);
    }

pub returns-clause-sent : goal.returns-clause-sent
returns-clause-sent c =
    let job = c.args.job.now in
    let p = job.send.profile in
    let all : c.making.counter ≡ job.count = omega arith in
    subst (λ n. HasSent (recording_job job) job.seed c.making.sender c.making.line (blocks_made p.codec p.channels job.seed n))
    all c.making.invariant.sent
