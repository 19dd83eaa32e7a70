use Rattle.std.proofs.Common.{ap, sym, ◌∙◌, arith, Some}
use Rattle.amr_frame.specs.Tables.{bits_in}
use Rattle.plain_packet.proofs.Framing.{frame_known, frame_same, type_same}
use Rattle.plain_packet.proofs.load.load_frame.Goals as goal

pub load_bits-requires-clause-some : goal.load_bits-requires-clause-some
load_bits-requires-clause-some c =
    let plain = c.requires.plain in
    let some = plain.bits in
    let same = ap (bits_in c.args.codec) (c.entry_type-ft.ensures.exact ∙ sym (type_same c.args.codec c.args.room.now c.args.len plain)) in
    let exact = c.bits_by_type.ensures.exact in
    omega (arith, some, same, exact)

pub returns-clause-frame : goal.returns-clause-frame
returns-clause-frame c =
    ap Some (frame_same c.args.codec c.args.room.now c.args.len c.requires.plain c.entry_type-ft.result c.bits_by_type.result
    c.entry_quality.result _ c.entry_type-ft.ensures.exact c.entry_quality.ensures c.bits_by_type.ensures.exact
    c.load_bits.ensures.bits)

pub returns-clause-valid : goal.returns-clause-valid
returns-clause-valid c =
    frame_known c.args.codec c.args.room.now c.args.len c.requires.plain _
    (frame_same c.args.codec c.args.room.now c.args.len c.requires.plain c.entry_type-ft.result c.bits_by_type.result
    c.entry_quality.result _ c.entry_type-ft.ensures.exact c.entry_quality.ensures c.bits_by_type.ensures.exact
    c.load_bits.ensures.bits)
