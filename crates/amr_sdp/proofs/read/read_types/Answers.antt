use Rattle.std.proofs.Common.{rules, sym, subst, vec_len}
use Rattle.amr_sdp.proofs.Going.{Stand, first_stand, next_stand}
use Rattle.amr_sdp.proofs.read.read_types.Goals as goal

pub loop-formats-init : goal.loop-formats-init
loop-formats-init c =
    let is = c.as_slice-formats.ensures.value in
    record {
      stand = subst (λ all. Stand c.args.section.now.attributes c.args.section.now.media.formats.items all
          c.new-types.result.items (vec_len c.new-types.result)) (sym is)
          (first_stand c.args.section.now.attributes c.args.section.now.media.formats.items c.new-types.result.items
          (vec_len c.new-types.result) c.new-types.ensures.items (search rules) (search rules) (search rules));
    }

pub loop-formats-preserved : goal.loop-formats-preserved
loop-formats-preserved c = record {
  stand = next_stand c.args.section.now.attributes c.args.section.now.media.formats.items c.loop-formats.formats.now
      c.loop-formats.types.items c.add.new.types.items (vec_len c.loop-formats.types) (vec_len c.add.new.types)
      c.in-Ok.found c.in-len1-up.len_at_least c.loop-formats.invariant.stand c.in-Ok.ensures.read
      c.in-Ok.ensures.valid c.in_default-add.ensures.items c.in_default-add.ensures.len;
}
