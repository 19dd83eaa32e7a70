use Rattle.std.proofs.Common.{refl, rules, arith}
use Rattle.amr_payload.proofs.Carried.{carried}
use Rattle.amr_payload.proofs.write_tests.written.Goals as goal

pub size_payload-size-requires : goal.size_payload-size-requires
size_payload-size-requires c = record {
  valid = search rules;
  carried = carried c.args.profile.now _ c.requires.channels c.requires.blocks c.requires.interleaving (omega arith) refl refl c.requires.some c.requires.most c.requires.present c.requires.frames;
}

pub write_payload-requires : goal.write_payload-requires
write_payload-requires c = record {
  valid = search rules;
  carried = carried c.args.profile.now _ c.requires.channels c.requires.blocks c.requires.interleaving (omega arith) refl refl c.requires.some c.requires.most c.requires.present c.requires.frames;
  size = search rules;
}
