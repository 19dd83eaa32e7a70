use Rattle.std.proofs.Common.{◌≡◌, ℕ, ◌-◌, ap, arith}
use Rattle.std.specs.Prelude.{flat_map}
use Rattle.std.specs.List.{range_with_len}
use Rattle.amr_oa.specs.Written.{longest_of, row_part, sorted_part}
use Rattle.amr_payload.proofs.Comparing.{row_more, row_wrong, rows_from, went_all}
use Rattle.amr_toc.specs.Viewed.{octets_of, said}
use Rattle.amr_payload.proofs.compare.compare_sorted.Goals as goal

pub returns-in-Err : goal.returns-in-Err
returns-in-Err c =
    row_wrong (said c.args.view.now).frames (octets_of c.args.view.now) c.args.start c.loop-octet.place c.loop-octet.octet
    c.longest-octet-end.result c.longest-octet-end.ensures (omega arith) c.loop-octet.invariant c.in-Err.place
    c.in-Err.ensures

pub loop-octet-preserved : goal.loop-octet-preserved
loop-octet-preserved c =
    row_more (said c.args.view.now).frames (octets_of c.args.view.now) c.args.start c.loop-octet.place c.loop-octet.octet
    c.longest-octet-end.result c.longest-octet-end.ensures (omega arith) c.loop-octet.invariant c.in-Ok.end c.in-Ok.ensures

pub returns : goal.returns
returns c =
    let fs = (said c.args.view.now).frames in
    let o = c.loop-octet.octet in
    let e = c.longest-octet-end.ensures in
    let past : longest_of fs - o ≡ 0 = omega arith in
    went_all (octets_of c.args.view.now) c.args.start (sorted_part fs) c.loop-octet.place (rows_from fs o)
    (ap (λ (m : ℕ). flat_map (row_part fs) (range_with_len o m)) past) c.loop-octet.invariant
