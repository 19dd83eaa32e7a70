use Rattle.std.proofs.Common.{◌+◌, ◌-◌, ◌/◌, ◌%◌, cond, ltb, refl, ap, ◌∙◌, arith}
use Rattle.amr_frame.specs.Tables.{bits_in}
use Rattle.amr_sender.proofs.Packed.{few_moved, payload_written, reaches}
use Rattle.amr_sender.proofs.Plans.{facts}
use Rattle.amr_sender.proofs.single.put_payload.Goals as goal

pub returns-clause-payload : goal.returns-clause-payload
returns-clause-payload c =
    let s = c.args.plan.now in
    let n = c.bits_by_table-bits.result in
    let long = ltb 244 n in
    payload_written s c.args.unit.now c.put_bits.new.out n (cond long 60 32) ((n + 1) / 8) (7 - (n + 1) % 8) _ _ _
    (record {
      packed = c.requires.single.packed;
      asks = (facts s c.requires.plan).request;
      long = c.requires.unit;
      small = λ k. omega (arith, c.type_inv.unit k);
      room = c.put_bits.auto.out ∙ c.requires.room;
      bits = c.bits_by_table-bits.ensures.exact ∙ ap (bits_in s.profile.codec) c.type_of.ensures.kind;
      last_is = refl;
      fill_is = refl;
      within = reaches long n refl c.bits_by_table-bits.ensures.most;
      few = few_moved long;
      moved = c.put_bits.ensures;
    }) refl refl refl
