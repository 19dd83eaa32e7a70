use Rattle.std.proofs.Common.{◌≡◌, ◌+◌, ◌<◌, length, drop, get_or, sym, ap, ◌∙◌, arith}
use Rattle.std.proofs.lemmas.List.{at_drop_more, length-append}
use Rattle.amr_be.specs.Parts.{body_part}
use Rattle.amr_frame.specs.declared.profile.Profile.{Profile}
use Rattle.amr_frame.specs.Frames.{no_data}
use Rattle.amr_frame.specs.Tables.{bits_in}
use Rattle.amr_toc.proofs.Sizes.{most_bits}
use Rattle.amr_toc.specs.Viewed.{said}
use Rattle.amr_payload.proofs.pad.body_bits.Goals as goal

pub loop-at-preserved : goal.loop-at-preserved
loop-at-preserved c =
    let fs = (said c.args.view.now).frames in
    let k = c.loop-at.at in
    let ft = c.entry.result.ft in
    let n = c.frames-at-end.ensures.said in
    let h : k < length fs = omega arith in
    let bits = (get_or fs k no_data).bits in
    let d : length (body_part (drop k fs)) ≡ length bits + length (body_part (drop (k + 1) fs)) =
    ap length (at_drop_more body_part fs k no_data h) ∙ length-append bits (body_part (drop (k + 1) fs)) in
    let read = c.bits_of-bits.ensures in
    let size : length bits ≡ c.bits_of-bits.result = c.entry.ensures.size ∙ ap (λ (q : Profile). bits_in q.codec ft) c.requires.format ∙ sym read in
    let most = most_bits c.args.profile.now.codec ft in
    let a = c.loop-at.invariant.0 in
    let b = c.loop-at.invariant.1 in
    (omega arith, omega arith)
