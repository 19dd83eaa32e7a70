use Rattle.std.proofs.Common.{◌≡◌, ◌∷◌, [], Some, rules}
use Rattle.std.specs.List.{slice_split}
use Rattle.spec_offer.specs.Attributes.{is_space}
use Rattle.sdp_lines.specs.Formats.{with_words}
use Rattle.sdp_lines.proofs.MediaWords.{media_is}
use Rattle.sdp_lines.proofs.formats.Media.read.Goals as goal

pub returns : goal.returns
returns c =
    let rest = c.in_ok-rest-2.field-0.now in
    let split : slice_split is_space c.args.text.now
    ≡ c.cut.result.0.now ∷ c.cut-2.result.0.now ∷ slice_split is_space rest = search rules in
    let taken : Some c.in_ok-formats.formats.items ≡ with_words [] (slice_split is_space rest) = search rules in
    media_is c.args.text.now c.cut.result.0.now c.cut-2.result.0.now rest c.in_ok-formats.formats.items split (search rules)
    (search rules) taken
