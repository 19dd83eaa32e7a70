use Rattle.std.proofs.Common.{◌≡◌, None, Some, sym, ◌∙◌, rules}
use Rattle.std.specs.List.{after_first, slice_split}
use Rattle.std.specs.Option.{option_map}
use Rattle.spec_offer.specs.Attributes.{is_slash, is_space, payload_type}
use Rattle.sdp_lines.specs.Attributes.{map_said}
use Rattle.sdp_lines.proofs.Maps.{IsMapText, apart, no_type, own_parts}
use Rattle.sdp_lines.proofs.attributes.read_map.Goals as goal

pub returns-in_err-pt-clause-said : goal.returns-in_err-pt-clause-said
returns-in_err-pt-clause-said c =
    let rest = c.in_ok-rest.rest.now in
    let back : rest ≡ after_first is_space c.trim_end.result.now = search rules in
    let number : None ≡ payload_type c.cut.result.0.now = search rules in
    let is : IsMapText c.args.text.now None (slice_split is_slash rest) =
    apart c.args.text.now c.trim_end.result.now c.cut.result.0.now rest None c.trim_end.ensures c.cut.ensures.before back
    number (search rules) in
    let none : option_map map_said c.from_residual-in_err-pt.result ≡ None = search rules in
    none ∙ sym (no_type c.args.text.now _ is)

pub returns-clause-said : goal.returns-clause-said
returns-clause-said c =
    let rest = c.in_ok-rest.rest.now in
    let back : rest ≡ after_first is_space c.trim_end.result.now = search rules in
    let number : Some c.in_ok-pt.pt ≡ payload_type c.cut.result.0.now = search rules in
    let is : IsMapText c.args.text.now (Some c.in_ok-pt.pt) (slice_split is_slash rest) =
    apart c.args.text.now c.trim_end.result.now c.cut.result.0.now rest (Some c.in_ok-pt.pt) c.trim_end.ensures
    c.cut.ensures.before back number (search rules) in
    c.map_of.ensures.said ∙ sym (own_parts c.args.text.now c.in_ok-pt.pt c.in_ok-cut_map.field-0 _ is c.in_ok-cut_map.ensures.some)
