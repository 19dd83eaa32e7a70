use Rattle.std.proofs.Common.{List, subst}
use Rattle.spec_offer.specs.Lines.{Line}
use Rattle.sdp_lines.specs.Lines.{left, line_of}
use Rattle.sdp_lines.specs.Section.{attributes_in, section_in}
use Rattle.sdp_lines.proofs.Telling.{Tells, fresh, heard, nothing_told}
use Rattle.sdp_lines.proofs.told.Attributes.of.Goals as goal

pub loop-line-init : goal.loop-line-init
loop-line-init c =
    let section = section_in c.args.audio.now in
    heard fresh c.hear.new.self section.media section.attributes section c.hear.ensures (nothing_told section)

pub loop-line-preserved : goal.loop-line-preserved
loop-line-preserved c =
    let section = section_in c.args.audio.now in
    let line = line_of c.in-Some.line in
    let rest = attributes_in (left c.next_attribute.new.self) in
    let P : List Line → Type 0 = λ ls. Tells c.loop-line.told ls section in
    heard c.loop-line.told c.hear-in-Some.new.self line rest section c.hear-in-Some.ensures
    (subst P c.in-Some.ensures.some c.loop-line.invariant)
