use Rattle.std.proofs.Common.{ℕ, ◌+◌, min, ltb, set, get_or, ap, ◌∙◌, arith}
use Rattle.std.specs.List.{sum_by}
use Rattle.std.proofs.lemmas.List.{length-set}
use Rattle.std.proofs.lemmas.List.Edits.{fill_by_more}
use Rattle.std.proofs.lemmas.List.Sums.{count_by-le-length}
use Rattle.amr_guard.proofs.Counts.{count-all, count-next, sum-next, sum-zero}
use Rattle.amr_toc.specs.Lists.{listed, types_of}
use Rattle.amr_toc.specs.Places.{sizes_in}
use Rattle.amr_toc.proofs.Rows.{none_longer, rows_begin}
use Rattle.amr_toc.proofs.Sizes.{sizes_long, sizes_short}
use Rattle.amr_toc.proofs.walk.begin_rows.Goals as goal

pub loop-octet-init : goal.loop-octet-init
loop-octet-init c =
    let es = listed c.args.toc.now in
    let sizes = sizes_in c.args.profile.now (types_of es) in
    let none = sum-zero sizes in
    let all = count-all sizes in
    let long = sizes_long c.args.profile.now.codec es in
    let count = c.len.ensures.entries in
    let empty = c.size_counts-counts.ensures 0 (omega arith) in
    let front = c.requires.front in
    (c.requires.rows, omega arith, omega arith, omega arith, λ k h. absurd (omega arith))

pub overflow_sub-frames-in-loop-octet : goal.overflow_sub-frames-in-loop-octet
overflow_sub-frames-in-loop-octet c =
    let o = c.loop-octet.octet in
    let sizes = sizes_in c.args.profile.now (types_of (listed c.args.toc.now)) in
    let frames = c.loop-octet.invariant.3 in
    let next = count-next sizes o in
    let exact = c.size_counts-counts.ensures (o + 1) (omega arith) in
    omega arith

pub loop-octet-preserved : goal.loop-octet-preserved
loop-octet-preserved c =
    let o = c.loop-octet.octet in
    let es = listed c.args.toc.now in
    let sizes = sizes_in c.args.profile.now (types_of es) in
    let inv = c.loop-octet.invariant in
    let place = inv.1 in
    let low = inv.2 in
    let frames = inv.3 in
    let most = count_by-le-length (λ x. ltb o x) sizes in
    let long = sizes_long c.args.profile.now.codec es in
    let count = c.len.ensures.entries in
    let few = c.len.ensures.few in
    let sums = sum-next sizes o in
    let next = count-next sizes o in
    let exact = c.size_counts-counts.ensures (o + 1) (omega arith) in
    let first = λ (k : ℕ). c.args.front + sum_by (λ x. min x k) sizes in (
      length-set c.loop-octet.rows o c.loop-octet.place ∙ inv.0,
      omega arith,
      omega arith,
      omega arith,
      λ k h. ap (λ v. get_or (set c.loop-octet.rows o v) k 0) inv.1
          ∙ fill_by_more first c.loop-octet.rows o 0 (omega (arith, inv.0)) inv.4 k h,
    )

pub returns : goal.returns
returns c =
    let fts = types_of (listed c.args.toc.now) in
    let sizes = sizes_in c.args.profile.now fts in
    rows_begin c.args.front sizes c.loop-octet.rows 60 c.loop-octet.invariant.0
    (none_longer sizes (sizes_short c.args.profile.now.codec fts))
    (λ k h. c.loop-octet.invariant.4 k (omega (arith, h, c.loop-octet-test.false)))
