use Rattle.std.proofs.Common.{◌++◌, ◌∙◌, append_assoc, codes, decimal, sym}
use Rattle.list_engine.proofs.Texts.{behind}
use Rattle.list_engine.specs.Payloads.{mark_text, quality_text}
use Rattle.spec_listing.specs.Payloads.{bit}
use Rattle.list_engine.proofs.frames.push_frame.Goals as goal

pub returns-clause-text : goal.returns-clause-text
returns-clause-text c =
    let start = c.args.line.now in
    let typed = c.number.new.self in
    let graded = c.push_quality.new.line in
    let marked = c.push_mark.new.line in
    let entry = c.entry-entry.result in
    let quality = quality_text entry.q in
    let mark = mark_text c.damaged.result in
    let is = c.entry-entry.ensures.entry in
    let ft = decimal c.from.result in
    let whole = behind start graded marked (ft ++ quality) mark
    (behind start typed graded ft quality c.number.ensures.text c.push_quality.ensures.text)
    c.push_mark.ensures.text in
    whole ∙ (λ i. start ++ (sym (append_assoc ft (codes "/") (decimal (bit entry.q))) i ++ mark))
    ∙ (λ i. start ++ (decimal ((c.from.ensures ∙ is.kind.as_said) i) ++ codes "/" ++ decimal
    (bit (is.quality i)) ++ mark_text (c.damaged.ensures i)))
