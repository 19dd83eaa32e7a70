use Rattle.std.proofs.Common.{◌≡◌, ◌+◌, min, get_or, sym, ap, ◌∙◌, arith}
use Rattle.std.specs.List.{sum_by}
use Rattle.spec_payload.specs.RobustOrder.{robust_order}
use Rattle.amr_guard.proofs.Counts.{rank, next-rank, sum-bounded}
use Rattle.amr_guard.proofs.Rows.{rank-stands, rank-below, robust-rank}
use Rattle.amr_guard.proofs.places.sorted_place.Goals as goal
use Rattle.amr_guard.proofs.places.sorted_place.Goals.{After-frames_having}

-- the two counts are the rank
is_rank : (c : After-frames_having) → c.octets_below.result + c.frames_having.result ≡ rank c.args.lengths.now c.args.frame c.args.octet
is_rank c =
    ap (λ x. x + c.frames_having.result) c.octets_below.ensures ∙ ap (λ x. sum_by (λ l. min l c.args.octet) c.args.lengths.now + x) c.frames_having.ensures
    ∙ next-rank c.args.lengths.now c.args.frame c.args.octet

pub overflow_add-result : goal.overflow_add-result
overflow_add-result c = omega (arith, is_rank c, rank-below c.args.lengths.now c.args.frame c.args.octet c.requires.exists, sum-bounded c.args.lengths.now c.requires.lengths.frames c.requires.lengths.short)

pub returns-clause-place : goal.returns-clause-place
returns-clause-place c = is_rank c ∙ sym (robust-rank c.args.lengths.now c.args.frame c.args.octet c.requires.exists)

pub returns-clause-stands : goal.returns-clause-stands
returns-clause-stands c d =
    ap (λ k. get_or (robust_order c.args.lengths.now) k d) (is_rank c) ∙ rank-stands c.args.lengths.now c.args.frame c.args.octet c.requires.exists d

pub returns-clause-within : goal.returns-clause-within
returns-clause-within c = omega (arith, is_rank c, rank-below c.args.lengths.now c.args.frame c.args.octet c.requires.exists)
