use Rattle.std.proofs.Common.{◌++◌, ◌∙◌, ap, codes}
use Rattle.hex.specs.Hex.{encode_lower}
use Rattle.list_engine.proofs.Texts.{behind}
use Rattle.list_engine.proofs.Said.{byte_is, head_said}
use Rattle.amr_bits.specs.Bits.{filled, nat}
use Rattle.rtp_packet.specs.View.{packet}
use Rattle.spec_listing.specs.Payloads.{bit}
use Rattle.spec_listing.specs.Refusals.{field}
use Rattle.list_engine.proofs.head.push_head.Goals as goal

pub returns-clause-text : goal.returns-clause-text
returns-clause-text c =
    let start = c.args.line.now in
    let pt = field (codes "pt") c.from.result in
    let m = field (codes "m") c.from-2.result in
    let seq = field (codes "seq") c.from-3.result in
    let ts = field (codes "ts") c.from-4.result in
    let name = codes " ssrc=" in
    let hex = encode_lower (filled (nat 32 c.ssrc.result)) in
    behind start c.push.new.self c.push_source.new.line (pt ++ m ++ seq ++ ts ++ name) hex
    (behind start c.named-4.new.self c.push.new.self (pt ++ m ++ seq ++ ts) name
    (behind start c.named-3.new.self c.named-4.new.self (pt ++ m ++ seq) ts
    (behind start c.named-2.new.self c.named-3.new.self (pt ++ m) seq
    (behind start c.named.new.self c.named-2.new.self pt m c.named.ensures.text
    c.named-2.ensures.text)
    c.named-3.ensures.text) c.named-4.ensures.text) c.push.ensures) c.push_source.ensures.text
    ∙ ap (λ t. start ++ t) (head_said (packet c.args.rtp.now) _ _ _ _ _
    (c.from.ensures ∙ c.payload_type.ensures)
    (c.from-2.ensures ∙ byte_is c.marker.result ∙ ap bit c.marker.ensures)
    (c.from-3.ensures ∙ c.sequence.ensures)
    (c.from-4.ensures ∙ c.timestamp.ensures) (ap (λ n. filled (nat 32 n)) c.ssrc.ensures))
