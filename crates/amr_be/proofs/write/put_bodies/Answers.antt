use Rattle.std.proofs.Common.{◌+◌, ◌++◌, length, drop, ap, refl, ◌∙◌, arith}
use Rattle.amr_be.specs.Parts.{body_part}
use Rattle.amr_be.proofs.Parts.{bodies_from, bodies_left, lent_long, no_bodies}
use Rattle.amr_bits.specs.Runs.{kept}
use Rattle.amr_bits.specs.Written.{front}
use Rattle.amr_frame.specs.Blocks.{frames_of}
use Rattle.amr_toc.specs.Behind.{WrittenBehind}
use Rattle.amr_toc.proofs.Writing.{at_first, next_step, at_last}
use Rattle.amr_be.proofs.write.put_bodies.Goals as goal

pub loop-cell-init : goal.loop-cell-init
loop-cell-init c = (refl, at_first c.args.out.now c.args.at.now.written (body_part (frames_of c.args.cells.now)))

pub put_bits-requires-clause-fits : goal.put_bits-requires-clause-fits
put_bits-requires-clause-fits c =
    let left = bodies_left c.args.cells.now c.loop-cell.cell-index c.as_bits.result.len c.cell-item.result
    c.cell-item.is (omega arith) (lent_long c.cell-item.result c.as_bits.ensures.len) in
    omega (arith, left, c.loop-cell.invariant.0, c.loop-cell.invariant.1.size, c.requires.fits)

pub put_bits-requires-clause-counts : goal.put_bits-requires-clause-counts
put_bits-requires-clause-counts c =
    let left = bodies_left c.args.cells.now c.loop-cell.cell-index c.as_bits.result.len c.cell-item.result
    c.cell-item.is (omega arith) (lent_long c.cell-item.result c.as_bits.ensures.len) in
    omega (arith, left, c.loop-cell.invariant.0, c.requires.counts)

pub loop-cell-preserved : goal.loop-cell-preserved
loop-cell-preserved c =
    let cells = c.args.cells.now in
    let k = c.loop-cell.cell-index in
    let cell = c.cell-item.result in
    let left = bodies_left cells k c.as_bits.result.len cell c.cell-item.is (omega arith)
    (lent_long cell c.as_bits.ensures.len) in
    let e = c.put_bits.ensures in
    let written = e.written in
    let text : WrittenBehind c.loop-cell.out c.loop-cell.at.written (kept cell.bits) c.put_bits.new.out
    c.put_bits.new.self.written = record {
      bits = e.bits ∙ ap (λ xs. front c.loop-cell.out c.loop-cell.at.written ++ xs) c.as_bits.ensures.bits;
      zeros = e.filled;
      later = e.later;
    } in (
      omega (arith, left, c.loop-cell.invariant.0),
      next_step (kept cell.bits) (body_part (frames_of (drop (k + 1) cells)))
          (bodies_from cells k cell c.cell-item.is (omega arith)) c.loop-cell.invariant.1 text (omega arith)
          (omega arith),
    )

pub returns-clause-written : goal.returns-clause-written
returns-clause-written c =
    omega (arith, ap length (no_bodies c.args.cells.now c.loop-cell.cell-index (omega arith)), c.loop-cell.invariant.0)

pub returns-clause-text : goal.returns-clause-text
returns-clause-text c =
    at_last c.loop-cell.invariant.1 (no_bodies c.args.cells.now c.loop-cell.cell-index (omega arith))
    (omega (arith, c.requires.some))
