use Rattle.std.proofs.Common.{◌≡◌, arith, length, rules}
use Rattle.std.specs.Prelude.{vec_len}
use Rattle.amr_group.proofs.Buffered.{has_room, more_is, more_so, not_full}
use Rattle.amr_group.proofs.buffer.GroupBuffer.add.Goals as goal

pub unreachable-requires : goal.unreachable-requires
unreachable-requires c =
    let s = c.self.inside in
    let len : vec_len s.cells ≡ length s.cells.items = search rules in
    let room = has_room s c.args.self.now c.args.cells.now (vec_len s.cells) c.self.invariant c.self.view_is len
    c.requires.room c.requires.block in
    let full = c.in_default.ensures.full in
    omega (arith, room, full)

pub invariant_of-self : goal.invariant_of-self
invariant_of-self c =
    let s = c.self.inside in
    let few = not_full s c.args.self.now c.self.view_is c.requires.room in
    let kept = c.extend_from_slice.ensures.capacity in
    let room = c.self.invariant.room in
    record {
      before = c.self.invariant.before;
      count = omega (arith, few);
      room = omega (arith, kept, room);
      blocks = more_so s c.args.self.now c.args.cells.now c.extend_from_slice.new.self.items c.self.invariant
          c.self.view_is c.requires.block c.in-Ok.ensures.items;
    }

pub returns : goal.returns
returns c =
    let s = c.self.inside in
    let v = c.self.view_is in
    let blocks = more_is s c.args.self.now c.args.cells.now c.extend_from_slice.new.self.items c.self.invariant
    v c.requires.block c.in-Ok.ensures.items in
    λ i. record (v i) { blocks = blocks i }
