use Rattle.amr_merge.proofs.Ranks.{same_best}
use Rattle.amr_merge.proofs.laws.the_same_frames_have_the_same_best.Goals as goal

-- src/laws.rt:19:1
pub returns : goal.returns
returns c = same_best
