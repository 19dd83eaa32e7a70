use Rattle.std.proofs.Common.{◌≡◌, ◌≤◌, ltb, take}
use Rattle.std.specs.List.{count_by}
use Rattle.amr_frame.specs.Tables.{bits_in}
use Rattle.amr_toc.specs.declared.entry.Entry.{Entry}
use Rattle.amr_toc.specs.Lists.{listed}
use Rattle.amr_toc.proofs.counts.filled_before.Given as goal

abbrev pub invariant-loop-k : goal.invariant-loop-k
invariant-loop-k l =
    (l.frames ≡ count_by (λ (e : Entry). ltb 0 (bits_in l.profile.codec e.ft)) (take l.k (listed l.toc)))
    × (l.frames ≤ l.k)
