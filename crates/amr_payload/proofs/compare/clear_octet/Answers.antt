use Rattle.std.proofs.Common.{◌≡◌, length, sym, ap, ◌∙◌, arith}
use Rattle.amr_payload.proofs.Comparing.{octet_clear}
use Rattle.amr_toc.specs.Viewed.{frame_in, said}
use Rattle.amr_frame.specs.declared.profile.Profile.{Profile}
use Rattle.amr_frame.specs.Tables.{bits_in}
use Rattle.amr_payload.proofs.compare.clear_octet.Goals as goal

pub returns : goal.returns
returns c =
    let view = c.args.view.now in
    let bits = (frame_in (said view) c.args.at).bits in
    let format = c.requires.payload.format in
    let aligned = ap (λ (q : Profile). q.octet_aligned) format ∙ c.requires.payload.aligned in
    let size : length bits ≡ c.bits_of-bits.result = c.entry.ensures.size ∙ ap (λ (q : Profile). bits_in q.codec c.entry.result.ft) format ∙ sym c.bits_of-bits.ensures in
    let least = c.min.ensures in
    let some = c.requires.octet in
    c.first_bits.ensures ∙ octet_clear c.octet.result c.args.octet c.min.result bits (omega arith) (omega arith) (c.octet.ensures.bits aligned)
