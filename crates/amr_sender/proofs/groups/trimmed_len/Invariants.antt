use Rattle.amr_sender.proofs.Trimming.{Trailing}
use Rattle.amr_sender.specs.Held.{held_of}
use Rattle.amr_sender.proofs.groups.trimmed_len.Given as goal

-- the blocks passed are NO_DATA
abbrev pub invariant-loop-count : goal.invariant-loop-count
invariant-loop-count l = Trailing (held_of l.group) l.count

abbrev pub decreases-loop-count : goal.decreases-loop-count
decreases-loop-count l = l.count
