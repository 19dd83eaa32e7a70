use Rattle.std.proofs.Common.{◌-◌, arith}
use Rattle.amr_group.proofs.Buffered.{count_is, dropped_is, dropped_so, few, within}
use Rattle.amr_group.proofs.buffer.GroupBuffer.pass.Goals as goal

pub drop_blocks-requires-clause-few : goal.drop_blocks-requires-clause-few
drop_blocks-requires-clause-few c =
    few c.self.inside c.args.self.now c.args.count c.self.invariant c.self.view_is c.requires.within

pub drop_blocks-requires-clause-within : goal.drop_blocks-requires-clause-within
drop_blocks-requires-clause-within c =
    within c.self.inside c.args.self.now c.self.inside.cells.items c.args.count c.self.invariant c.self.view_is
    Rattle.std.proofs.Common.refl c.requires.within

pub overflow_cast-self : goal.overflow_cast-self
overflow_cast-self c =
    let most = few c.self.inside c.args.self.now c.args.count c.self.invariant c.self.view_is c.requires.within in
    omega (arith, most)

pub overflow_sub-self : goal.overflow_sub-self
overflow_sub-self c =
    let is = count_is c.self.inside c.args.self.now c.self.view_is in
    let le = c.requires.within in
    omega (arith, is, le)

pub invariant_of-self : goal.invariant_of-self
invariant_of-self c =
    let s = c.self.inside in
    let inv = c.self.invariant in
    let is = count_is s c.args.self.now c.self.view_is in
    let le = c.requires.within in
    let count = inv.count in
    let room = inv.room in
    let kept = c.drop_blocks.ensures.capacity in
    record {
      before = inv.before;
      count = omega (arith, count);
      room = omega (arith, kept, room);
      blocks = dropped_so s c.drop_blocks.new.cells.items c.args.count inv (omega (arith, is, le)) c.drop_blocks.ensures.items;
    }

pub returns : goal.returns
returns c =
    dropped_is c.self.inside c.args.self.now c.drop_blocks.new.cells.items c.args.count c.self.view_is c.requires.within
    c.drop_blocks.ensures.items
