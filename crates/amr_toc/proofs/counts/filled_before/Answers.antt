use Rattle.std.proofs.Common.{◌≡◌, ltb, take, ap, sym, ◌∙◌, arith}
use Rattle.std.specs.List.{count_by}
use Rattle.amr_frame.specs.Tables.{bits_in}
use Rattle.amr_toc.specs.declared.entry.Entry.{Entry}
use Rattle.amr_toc.specs.Lists.{listed}
use Rattle.amr_toc.proofs.Sizes.{passing_to}
use Rattle.amr_toc.proofs.counts.filled_before.Goals as goal

pub returns-clause-count : goal.returns-clause-count
returns-clause-count c =
    let codec = c.args.profile.now.codec in
    let es = listed c.args.toc.now in
    let e : c.loop-k.k ≡ c.args.at = omega arith in
    c.loop-k.invariant.0 ∙ ap (λ n. count_by (λ (x : Entry). ltb 0 (bits_in codec x.ft)) (take n es)) e ∙ sym (passing_to (λ ft. ltb 0 (bits_in codec ft)) es c.args.at)
