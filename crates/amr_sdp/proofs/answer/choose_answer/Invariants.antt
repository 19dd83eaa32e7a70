use Rattle.std.proofs.Common.{length}
use Rattle.amr_sdp.specs.Answers.{wanted_said}
use Rattle.amr_sdp.proofs.Trying.{Tries}
use Rattle.spec_offer.specs.Answers.{chosen_of, unsuited}
use Rattle.amr_sdp.proofs.answer.choose_answer.Given as goal

-- none of the types so far suits
abbrev pub invariant-loop-left : goal.invariant-loop-left
invariant-loop-left l = record {
  tries : Tries (unsuited (wanted_said l.wanted)) (chosen_of (wanted_said l.wanted)) l.offer.types.items l.left
      l.refused.items;
}

abbrev pub decreases-loop-left : goal.decreases-loop-left
decreases-loop-left l = length l.left
