use Rattle.std.proofs.Common.{◌∙◌, arith}
use Rattle.amr_store.proofs.FrameRead.{first_is, frame_same}
use Rattle.amr_store.proofs.block.read_frame.Goals as goal

pub invariant_of-bits : goal.invariant_of-bits
invariant_of-bits c =
    let f = first_is c.args.codec c.args.octets.now (λ k. omega (arith, c.type_inv.octets k)) c.requires in
    let room = f.room in
    record { within = omega (arith, room, c.bits_of.ensures) }

pub returns : goal.returns
returns c = record {
  frame = λ unit more first. c.from_bits.ensures.fields
      ∙ frame_same c.args.codec c.args.octets.now unit more c.bits_of.result (λ k. omega (arith, c.type_inv.octets k))
      first c.bits_of.ensures;
  valid = c.from_bits.ensures.of_codec;
  present = c.from_bits.ensures.present;
}
