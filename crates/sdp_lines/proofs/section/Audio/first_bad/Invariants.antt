use Rattle.std.proofs.Common.{◌≡◌, length}
use Rattle.spec_offer.specs.Sections.{first_bad}
use Rattle.sdp_lines.specs.Lines.{left}
use Rattle.sdp_lines.specs.Section.{attributes_in, section_in}
use Rattle.sdp_lines.proofs.Begun.{bad_in}
use Rattle.sdp_lines.proofs.section.Audio.first_bad.Given as goal

-- the first bad line of those left is that of all
abbrev pub invariant-loop-line : goal.invariant-loop-line
invariant-loop-line l = bad_in (attributes_in (left l.behind)) ≡ first_bad (section_in l.self)

abbrev pub decreases-loop-line : goal.decreases-loop-line
decreases-loop-line l = length l.behind.rest.now
