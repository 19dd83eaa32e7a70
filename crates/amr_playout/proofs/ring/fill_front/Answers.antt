use Rattle.std.proofs.Common.{◌≡◌, ℕ, List, take, sym, ap, ◌∙◌, subst, arith, IsTrue}
use Rattle.std.specs.List.{AllByRecursion}
use Rattle.amr_frame.specs.declared.cell.Cell.{Cell}
use Rattle.amr_playout.proofs.Fronts.{frames-take, frames_are, frames_stored, length-front}
use Rattle.amr_playout.proofs.ring.fill_front.Goals as goal

pub returns-clause-frames : goal.returns-clause-frames
returns-clause-frames c =
    let n : ℕ = c.args.count in
    frames-take n c.loop-index.ring.items ∙ ap (take n) c.loop-index.invariant.frames
    ∙ sym (frames-take n c.args.ring.now.items)
    ∙ frames_stored c.args.codec n c.args.ring.now.items c.requires.valid

pub returns-clause-block : goal.returns-clause-block
returns-clause-block c =
    let xs : List Cell = c.loop-index.ring.items in
    let end : c.loop-index.index ≡ c.args.count = omega arith in
    record {
      present =
          subst (λ n. AllByRecursion (λ (cell : Cell). IsTrue cell.present) (take n xs)) end
          c.loop-index.invariant.present;
      block = record {
        whole = length-front c.args.count xs (omega (arith, c.loop-index.invariant.full));
        frames = frames_are c.args.codec c.args.count xs c.loop-index.invariant.valid;
      };
    }
