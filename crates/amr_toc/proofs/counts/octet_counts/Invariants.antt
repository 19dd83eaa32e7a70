use Rattle.std.proofs.Common.{◌≡◌, ◌<◌, ℕ, length, map, get_or}
use Rattle.amr_frame.specs.Tables.{octets_in}
use Rattle.amr_toc.specs.Lists.{listed, types_of}
use Rattle.amr_toc.proofs.counts.octet_counts.Given as goal

abbrev pub invariant-loop-at : goal.invariant-loop-at
invariant-loop-at l =
    (length l.counts ≡ 384)
    × ((k : ℕ) → k < l.at → get_or l.counts k 0 ≡ get_or (map (octets_in l.profile.codec) (types_of (listed l.toc))) k 0)
