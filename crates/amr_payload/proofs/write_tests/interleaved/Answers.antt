use Rattle.std.proofs.Common.{refl, rules, sym, subst, arith}
use Rattle.amr_frame.specs.Cells.{frame_of}
use Rattle.amr_frame.specs.declared.codec.Codec.{Codec}
use Rattle.amr_frame.specs.Frames.{IsFrame}
use Rattle.amr_payload.proofs.Carried.{carried_in_group}
use Rattle.amr_payload.proofs.write_tests.interleaved.Goals as goal

pub size_payload-requires : goal.size_payload-requires
size_payload-requires c = record {
  valid = search rules;
  carried = carried_in_group _ _ c.format-profile.ensures.channels c.format-profile.ensures.blocks refl (omega arith) refl refl refl (c.requires.present, tt)
      (subst (λ (codec : Codec). IsFrame codec (frame_of c.args.cell)) (sym c.format-profile.ensures.codec) c.requires.frame, tt);
}

pub write_payload-requires : goal.write_payload-requires
write_payload-requires c = record {
  valid = search rules;
  carried = carried_in_group _ _ c.format-profile.ensures.channels c.format-profile.ensures.blocks refl (omega arith) refl refl refl (c.requires.present, tt)
      (subst (λ (codec : Codec). IsFrame codec (frame_of c.args.cell)) (sym c.format-profile.ensures.codec) c.requires.frame, tt);
  size = search rules;
}
