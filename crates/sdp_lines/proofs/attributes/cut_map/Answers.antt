use Rattle.std.proofs.Common.{◌≡◌, ◌∷◌, arith, rules}
use Rattle.std.specs.List.{slice_split}
use Rattle.std.proofs.lemmas.List.Splits.{length-slice_split}
use Rattle.spec_offer.specs.Attributes.{is_slash}
use Rattle.sdp_lines.proofs.Maps.{many_parts}
use Rattle.sdp_lines.proofs.attributes.cut_map.Goals as goal

pub returns-in_default-Some-clause-none : goal.returns-in_default-Some-clause-none
returns-in_default-Some-clause-none c =
    let more = c.in_default-Some.field-0-1.now in
    let parts : slice_split is_slash c.args.text.now
    ≡ c.cut.result.0.now ∷ c.cut-2.result.0.now ∷ c.cut-3.result.0.now ∷ slice_split is_slash more = search rules in
    many_parts _ _ _ _ (slice_split is_slash more) (omega (arith, length-slice_split is_slash more)) parts
