-- How many of a table are marked.
use Rattle.std.proofs.Common.{◌≡◌, ℕ, ◌+◌, ◌<◌, Bool, true, false, cond, List, length, get_or, set, ap, arith}
use Rattle.std.specs.List.{count_by}
use Rattle.std.proofs.Math.ListN.{length-set}
use Rattle.std.proofs.lemmas.List.Sums.{count_by-le-length, sum_by-set}

-- where one isn't, not all are
pub count_below : (marks : List Bool) (k : ℕ) → k < length marks → get_or marks k false ≡ false
    → count_by (λ b. b) marks < length marks
count_below marks k below e =
    let more : count_by (λ b. b) (set marks k true) + cond {A = ℕ} (get_or marks k false) 1 0 ≡ count_by (λ b. b) marks + 1 =
    sum_by-set (λ b. cond b 1 0) marks k true false below in
    let most = count_by-le-length (λ b. b) (set marks k true) in
    let none : cond {A = ℕ} (get_or marks k false) 1 0 ≡ 0 = ap (λ (b : Bool). cond {A = ℕ} b 1 0) e in
    let same : length (set marks k true) ≡ length marks = length-set marks k true in omega arith
