use Rattle.amr_merge.proofs.Ranks.{better_assoc, better_comm}
use Rattle.amr_merge.proofs.laws.better_is_the_greater.Goals as goal

-- src/laws.rt:9:1
pub returns-clause-associative : goal.returns-clause-associative
returns-clause-associative c = better_assoc

-- src/laws.rt:9:1
pub returns-clause-commutative : goal.returns-clause-commutative
returns-clause-commutative c = better_comm
