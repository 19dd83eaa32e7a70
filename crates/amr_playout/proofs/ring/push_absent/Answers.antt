use Rattle.std.proofs.Common.{◌≡◌, ℕ, ◌+◌, ◌<◌, List, ◌++◌, length, drop, replicate, arith, ap, subst, sym, ◌∙◌, Option, None}
use Rattle.std.specs.List.{AllByRecursion}
use Rattle.amr_frame.specs.Cells.{IsCell}
use Rattle.amr_frame.specs.Frames.{Frame}
use Rattle.amr_frame.specs.declared.cell.Cell.{Cell}
use Rattle.amr_playout.proofs.CellLists.{absent_is, all-append, all-drop, all-replicate, held-append, held-drop, held-replicate}
use Rattle.amr_playout.proofs.Spans.{length-pushed, pushed}
use Rattle.amr_playout.specs.Window.{held_of}
use Rattle.amr_playout.proofs.ring.push_absent.Goals as goal

pub loop-at-preserved : goal.loop-at-preserved
loop-at-preserved c =
    let xs : List Cell = c.args.ring.now.items in
    let k : ℕ = c.loop-at.at in
    let d : Cell = c.absent-none.result in
    let lt : k < length xs = omega arith in
    let items : c.push_back.new.self.items ≡ drop (k + 1) xs ++ replicate (k + 1) d =
    ap (λ b. b.items) c.push_back.ensures.items ∙ pushed xs c.loop-at.ring.items d c.loop-at.ring.capacity k
    (omega arith) (omega arith) c.loop-at.invariant.items in
    record {
      full =
          ap length items ∙ length-pushed xs d (k + 1) (omega arith)
          ∙ omega (arith, ap (λ b. b.capacity) c.push_back.ensures.items);
      capacity = ap (λ b. b.capacity) c.push_back.ensures.items ∙ c.loop-at.invariant.capacity;
      items = items;
    }

pub returns-clause-items : goal.returns-clause-items
returns-clause-items c =
    let xs : List Cell = c.args.ring.now.items in
    let n : ℕ = c.loop-at.at in
    let d : Cell = c.absent-none.result in
    let end : n ≡ c.args.count = omega arith in
    ap held_of c.loop-at.invariant.items ∙ held-append (drop n xs) (replicate n d)
    ∙ ap (λ os. os ++ held_of (replicate n d)) (held-drop n xs)
    ∙ ap (λ os. drop n (held_of xs) ++ os) (held-replicate n d c.absent-none.ensures.absent)
    ∙ ap (λ m. drop m (held_of xs) ++ replicate {A = Option Frame} m None) end

pub returns-clause-ring : goal.returns-clause-ring
returns-clause-ring c =
    let xs : List Cell = c.args.ring.now.items in
    let n : ℕ = c.loop-at.at in
    let d : Cell = c.absent-none.result in
    let capacity : c.loop-at.ring.capacity ≡ c.args.ring.now.capacity = c.loop-at.invariant.capacity in
    record {
      valid =
          subst (AllByRecursion (IsCell c.args.codec)) (sym c.loop-at.invariant.items)
          (all-append (IsCell c.args.codec) (drop n xs) (replicate n d)
          (all-drop (IsCell c.args.codec) n xs c.requires.full.valid)
          (all-replicate (IsCell c.args.codec) n d
          (absent_is c.args.codec d c.absent-none.ensures.present c.absent-none.ensures.like_no_data)));
      size = c.loop-at.invariant.full ∙ capacity ∙ sym c.requires.full.full;
      capacity = capacity;
    }
