use Rattle.std.proofs.Common.{◌≡◌, length}
use Rattle.spec_offer.specs.Lines.{lines}
use Rattle.spec_offer.specs.Sections.{section_of}
use Rattle.sdp_lines.specs.Lines.{left}
use Rattle.sdp_lines.proofs.section.Audio.find.Given as goal

-- the section of the lines that are left is that of all
abbrev pub invariant-loop-line : goal.invariant-loop-line
invariant-loop-line l = section_of (left l.lines) ≡ section_of (lines l.text)

abbrev pub decreases-loop-line : goal.decreases-loop-line
decreases-loop-line l = length l.lines.rest.now
