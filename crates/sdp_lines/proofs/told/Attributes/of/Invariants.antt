use Rattle.std.proofs.Common.{length}
use Rattle.sdp_lines.specs.Lines.{left}
use Rattle.sdp_lines.specs.Section.{attributes_in, section_in}
use Rattle.sdp_lines.proofs.Telling.{Tells}
use Rattle.sdp_lines.proofs.told.Attributes.of.Given as goal

-- what was told and what the lines that are left say
abbrev pub invariant-loop-line : goal.invariant-loop-line
invariant-loop-line l = Tells l.told (attributes_in (left l.behind)) (section_in l.audio)

abbrev pub decreases-loop-line : goal.decreases-loop-line
decreases-loop-line l = length l.behind.rest.now
