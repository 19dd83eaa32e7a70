use Rattle.std.proofs.Common.{◌≡◌, length, ap, ◌∙◌, arith}
use Rattle.amr_toc.specs.Viewed.{frame_in, octets_of, said}
use Rattle.amr_bits.specs.Bits.{number}
use Rattle.amr_frame.specs.Tables.{class_a_in}
use Rattle.amr_payload.proofs.Viewing.{no_check, one_check, shown_bits, shown_type}
use Rattle.spec_payload.specs.FrameCrc.{crc_of}
use Rattle.spec_payload.specs.Grammar.{check_of}
use Rattle.std.proofs.Common.{take}
use Rattle.amr_payload.proofs.compare.compare_check.Goals as goal

pub returns-then-len-eq0 : goal.returns-then-len-eq0
returns-then-len-eq0 c =
    let view = c.args.view.now in
    let l = c.len.ensures.bits in
    let e = ap length (shown_bits view c.args.at c.frame-cell.result c.frame-cell.ensures.frame) in
    no_check c.args.profile.now (frame_in (said view) c.args.at) (octets_of view) c.args.place (omega arith)

pub returns : goal.returns
returns c =
    let view = c.args.view.now in
    let p = c.args.profile.now in
    let cell = c.frame-cell.result in
    let f = frame_in (said view) c.args.at in
    let bits = shown_bits view c.args.at cell c.frame-cell.ensures.frame in
    let kind = shown_type view c.args.at cell c.frame-cell.ensures.frame in
    let l = c.len.ensures.bits in
    let e = ap length bits in
    let is : c.check_over-check.result ≡ check_of p f =
    c.check_over-check.ensures ∙ ap (λ xs. number (crc_of (take (class_a_in p.codec cell.ft) xs))) (c.as_bits.ensures.bits ∙ bits)
    ∙ ap (λ t. number (crc_of (take (class_a_in p.codec t) f.bits))) kind in
    one_check p f (octets_of view) c.args.place c.check_over-check.result c.compare_at.result c.if-not-profile.false (omega arith) is c.compare_at.ensures
