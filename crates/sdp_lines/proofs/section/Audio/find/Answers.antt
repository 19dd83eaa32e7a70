use Rattle.std.proofs.Common.{◌≡◌, false, sym, ◌∙◌, ap, rules}
use Rattle.spec_offer.specs.Lines.{begins}
use Rattle.spec_offer.specs.Sections.{section_of}
use Rattle.sdp_lines.specs.Lines.{left, line_of}
use Rattle.sdp_lines.specs.Section.{media_kind}
use Rattle.sdp_lines.proofs.Begun.{section_later}
use Rattle.sdp_lines.proofs.section.Audio.find.Goals as goal

pub loop-line-preserved : goal.loop-line-preserved
loop-line-preserved c =
    let line = line_of c.in-Some.line in
    let other : begins media_kind.front line ≡ false = search rules in
    sym (section_later line (left c.next.new.self) other) ∙ ap section_of (sym c.in-Some.ensures.some) ∙ c.loop-line.invariant
