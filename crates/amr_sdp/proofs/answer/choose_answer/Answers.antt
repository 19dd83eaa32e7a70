use Rattle.std.proofs.Common.{◌∙◌, sym}
use Rattle.amr_sdp.specs.Answers.{wanted_said}
use Rattle.amr_sdp.proofs.Trying.{next}
use Rattle.spec_offer.specs.Answers.{chosen_of, unsuited}
use Rattle.amr_sdp.proofs.answer.choose_answer.Goals as goal

pub loop-left-preserved : goal.loop-left-preserved
loop-left-preserved c =
    let w = wanted_said c.args.wanted.now in
    record {
      tries = next (unsuited w) (chosen_of w) c.args.offer.now.types.items c.loop-left.left.now
          c.loop-left.refused.items c.push.new.self.items c.in-Some.why _ c.in-len1-up.len_at_least
          (sym c.in-Some.is ∙ c.unsuited.ensures) c.push.ensures.items c.loop-left.invariant.tries;
    }
