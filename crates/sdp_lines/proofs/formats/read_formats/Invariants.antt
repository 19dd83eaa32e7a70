use Rattle.std.proofs.Common.{◌≡◌, suc, length, []}
use Rattle.std.specs.List.{slice_split}
use Rattle.std.specs.Option.{option_map_or}
use Rattle.spec_offer.specs.Attributes.{is_space}
use Rattle.sdp_lines.specs.Formats.{with_words}
use Rattle.sdp_lines.proofs.formats.read_formats.Given as goal

-- what is taken and what is left are the whole
abbrev pub invariant-loop-left : goal.invariant-loop-left
invariant-loop-left l =
    with_words l.formats.items.items (option_map_or (λ r. slice_split is_space r.now) l.left [])
    ≡ with_words [] (slice_split is_space l.text)

abbrev pub decreases-loop-left : goal.decreases-loop-left
decreases-loop-left l = option_map_or (λ r. suc (length r.now)) l.left 0
