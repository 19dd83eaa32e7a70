use Rattle.std.proofs.Common.{◌≡◌, ◌+◌, ◌≤◌, length, take}
use Rattle.std.specs.List.{suffix_len}
use Rattle.spec_offer.specs.Attributes.{is_space}
use Rattle.sdp_lines.proofs.pieces.trim_end.Given as goal

-- what is behind the end are spaces
abbrev pub invariant-loop-end : goal.invariant-loop-end
invariant-loop-end l =
    (l.end ≤ length l.text) × (l.end + suffix_len is_space l.text ≡ length l.text + suffix_len is_space (take l.end l.text))

abbrev pub decreases-loop-end : goal.decreases-loop-end
decreases-loop-end l = l.end
