use Rattle.std.proofs.Common.{◌≡◌, ◌+◌, ◌*◌, length, sym, ap, ◌∙◌, arith}
use Rattle.std.proofs.lemmas.List.{length-map}
use Rattle.amr_be.proofs.Canonical.{length-text, body_most}
use Rattle.amr_toc.proofs.Carried.{few}
use Rattle.amr_bits.specs.Bits.{octets_for}
use Rattle.amr_frame.specs.Blocks.{frames_of}
use Rattle.amr_frame.specs.Cells.{frame_of}
use Rattle.amr_toc.specs.Payloads.{meant}
use Rattle.amr_be.proofs.write.size_be.Goals as goal

pub overflow_add-cells-2 : goal.overflow_add-cells-2
overflow_add-cells-2 c =
    let p = c.args.profile.now in
    let cells = c.args.payload.now.cells.now in
    let most = body_most p.codec (frames_of cells) c.requires.payload.carried.value.frames in
    let size = length-map cells frame_of in
    let n = few p c.args.payload.now c.requires.payload.carried c.entries_within.ensures.most in
    let bits = c.body_bits.ensures.bits in
    omega arith

pub returns : goal.returns
returns c =
    let p = c.args.profile.now in
    let cells = c.args.payload.now.cells.now in
    let size : length (frames_of cells) ≡ length cells = length-map cells frame_of in
    let bits = c.body_bits.ensures.bits in
    let e = c.div_ceil.ensures in
    let up : c.div_ceil.result ≡ octets_for (4 + 6 * length cells + c.body_bits.result) = omega arith in
    let few_bits = body_most p.codec (frames_of cells) c.requires.payload.carried.value.frames in
    let n = few p c.args.payload.now c.requires.payload.carried c.entries_within.ensures.most in
    record {
      exact = up ∙ ap octets_for (omega arith) ∙ sym (length-text p (meant c.args.payload.now) c.requires.packed);
      some = omega arith;
      most = omega arith;
    }
