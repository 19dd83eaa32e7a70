use Rattle.std.proofs.Common.{◌<◌, length, take, not, eqb, ◌∙◌, arith}
use Rattle.std.proofs.lemmas.Bool.{le-ltb, lt-ltb}
use Rattle.amr_bits.specs.Bits.{number}
use Rattle.amr_frame.specs.Tables.{class_a_in}
use Rattle.spec_payload.specs.FrameCrc.{crc_of}
use Rattle.spec_payload.specs.Values.{has_bits}
use Rattle.amr_toc.specs.Viewed.{frame_in, said}
use Rattle.amr_toc.proofs.CheckPlaces.{without_bits, compared}
use Rattle.amr_toc.proofs.InView.{check_in, run_long}
use Rattle.amr_toc.proofs.view.PayloadView.check_differs.Goals as goal

pub returns-then-len-eq0 : goal.returns-then-len-eq0
returns-then-len-eq0 c =
    let f = frame_in (said c.args.self.now) c.args.at in
    let n = run_long c.args.self.now c.args.at c.args.ft c.len.result _ c.requires.run c.len.ensures.bits in
    without_bits c.args.self.now.profile.crc (has_bits f) _ (le-ltb 0 (length f.bits)
    (omega (arith, c.if-len-eq0.true)))

pub bounds-self-check : goal.bounds-self-check
bounds-self-check c =
    let n = run_long c.args.self.now c.args.at c.args.ft c.len.result _ c.requires.run c.len.ensures.bits in
    (check_in c.args.self.now c.args.at c.args.check c.requires.run.kind.exists c.if-not-self.false
    (omega (arith, n, c.if-len-eq0.false)) c.requires.check).0

pub returns : goal.returns
returns c =
    let v = c.args.self.now in
    let f = frame_in (said v) c.args.at in
    let n = run_long v c.args.at c.args.ft c.len.result _ c.requires.run c.len.ensures.bits in
    let some : 0 < length f.bits = omega (arith, n, c.if-len-eq0.false) in
    let sent = (check_in v c.args.at c.args.check c.requires.run.kind.exists c.if-not-self.false some c.requires.check).1 in
    let due = c.check_over.ensures ∙ (λ i. number (crc_of (take (class_a_in v.profile.codec (c.requires.run.kind.as_said i)) (c.requires.run.bits i)))) in
    (λ i. not (eqb (sent i) (due i)))
    ∙ compared v.profile.crc (has_bits f) _ c.if-not-self.false (lt-ltb 0 (length f.bits) some)
