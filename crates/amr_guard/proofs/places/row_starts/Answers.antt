use Rattle.std.proofs.Common.{ℕ, ◌+◌, min, ltb, set, get_or, refl, sym, ap, ◌∙◌, arith}
use Rattle.std.specs.List.{sum_by}
use Rattle.std.proofs.lemmas.List.{length-set}
use Rattle.std.proofs.lemmas.List.Edits.{fill_by_more}
use Rattle.std.proofs.lemmas.List.Sums.{count_by-le-length}
use Rattle.amr_guard.proofs.Counts.{sum-zero, sum-next, count-next, count-all}
use Rattle.amr_guard.proofs.places.row_starts.Goals as goal

pub loop-octet-init : goal.loop-octet-init
loop-octet-init c = (
  refl,
  sym (sum-zero c.args.lengths.now),
  omega arith,
  omega (arith, count-all c.args.lengths.now, c.counted-counts.ensures 0 (omega arith)),
  λ k h. absurd (omega arith),
)

pub overflow_sub-frames-in-loop-octet : goal.overflow_sub-frames-in-loop-octet
overflow_sub-frames-in-loop-octet c =
    let o = c.loop-octet.octet in
    omega (arith, c.loop-octet.invariant.3, count-next c.args.lengths.now o, c.counted-counts.ensures (o + 1) (omega arith))

pub loop-octet-preserved : goal.loop-octet-preserved
loop-octet-preserved c =
    let ls = c.args.lengths.now in
    let o = c.loop-octet.octet in
    let inv = c.loop-octet.invariant in
    let most = count_by-le-length (λ x. ltb o x) ls in
    let first = λ (k : ℕ). sum_by (λ x. min x k) ls in (
      length-set c.loop-octet.starts o c.loop-octet.start ∙ inv.0,
      omega (arith, inv.1, inv.3, sum-next ls o),
      omega (arith, inv.2, inv.3, most, c.requires.lengths.frames),
      omega (arith, inv.3, count-next ls o, c.counted-counts.ensures (o + 1) (omega arith)),
      λ k h. ap (λ v. get_or (set c.loop-octet.starts o v) k 0) inv.1 ∙ fill_by_more first c.loop-octet.starts o 0 (omega (arith, inv.0)) inv.4 k h,
    )
