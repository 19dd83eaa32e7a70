use Rattle.std.proofs.Common.{◌≡◌, ◌≤◌, ◌*◌, take}
use Rattle.std.specs.List.{sum_by}
use Rattle.amr_frame.specs.Tables.{octets_in}
use Rattle.amr_toc.specs.declared.entry.Entry.{Entry}
use Rattle.amr_toc.specs.Lists.{listed}
use Rattle.amr_toc.proofs.counts.octets_before.Given as goal

abbrev pub invariant-loop-k : goal.invariant-loop-k
invariant-loop-k l =
    (l.octets ≡ sum_by (λ (e : Entry). octets_in l.profile.codec e.ft) (take l.k (listed l.toc)))
    × (l.octets ≤ 60 * l.k)
