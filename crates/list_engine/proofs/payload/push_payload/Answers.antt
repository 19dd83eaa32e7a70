use Rattle.std.proofs.Common.{◌++◌, ◌∙◌, ap, codes}
use Rattle.list_engine.proofs.Said.{blocks_are, payload_is}
use Rattle.list_engine.proofs.Texts.{behind}
use Rattle.list_engine.specs.Payloads.{frames_said}
use Rattle.spec_listing.specs.Refusals.{field}
use Rattle.list_engine.proofs.payload.push_payload.Goals as goal

pub returns-clause-text : goal.returns-clause-text
returns-clause-text c =
    let start = c.args.line.now in
    let view = c.args.view.now in
    let cmr = field (codes "cmr") c.from.result in
    let mode = field (codes "mode") c.from-2.result in
    let stride = field (codes "stride") c.from-3.result in
    let index = field (codes "index") c.from-4.result in
    let blocks = field (codes "blocks") c.blocks-2.result in
    let name = codes " frames=" in
    behind start c.push.new.self c.push_frames.new.line
    (cmr ++ mode ++ stride ++ index ++ blocks ++ name) (frames_said view)
    (behind start c.named-5.new.self c.push.new.self (cmr ++ mode ++ stride ++ index ++ blocks) name
    (behind start c.named-4.new.self c.named-5.new.self (cmr ++ mode ++ stride ++ index) blocks
    (behind start c.named-3.new.self c.named-4.new.self (cmr ++ mode ++ stride) index
    (behind start c.named-2.new.self c.named-3.new.self (cmr ++ mode) stride
    (behind start c.named.new.self c.named-2.new.self cmr mode c.named.ensures.text
    c.named-2.ensures.text)
    c.named-3.ensures.text) c.named-4.ensures.text) c.named-5.ensures.text) c.push.ensures)
    c.push_frames.ensures.text
    ∙ ap (λ t. start ++ t) (payload_is view _ _ c.args.mode _ _ _ (c.from.ensures ∙ c.cmr.ensures)
    c.from-2.ensures
    (c.from-3.ensures ∙ c.stride.ensures) (c.from-4.ensures ∙ c.index.ensures)
    (blocks_are view _ c.blocks-2.ensures.blocks))
