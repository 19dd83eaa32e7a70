use Rattle.std.proofs.Common.{◌∙◌, ap}
use Rattle.media_params.proofs.Joined.{text_is}
use Rattle.media_params.specs.Fmtp.{parameters}
use Rattle.media_params.specs.Gathered.{with_param}
use Rattle.refusals.specs.declared.param.Param.TheVariants as param
use Rattle.spec_media.specs.Printing.{printed_value}
use Rattle.media_params.proofs.printing.gather.Goals as goal

pub returns : goal.returns
returns c =
    let p = parameters c.args.fmtp.now in
    let up_to_octetalign = c.push_flag.ensures.bytes ∙ ap (with_param param.OctetAlign (printed_value p param.OctetAlign)) c.new-text.ensures in
    let up_to_modeset = c.push_modes.ensures.bytes ∙ ap (with_param param.ModeSet (printed_value p param.ModeSet)) up_to_octetalign in
    let up_to_period = c.push_count.ensures.bytes ∙ ap (with_param param.Period (printed_value p param.Period)) up_to_modeset in
    let up_to_capability = c.push_count-2.ensures.bytes ∙ ap (with_param param.Capability (printed_value p param.Capability)) up_to_period in
    let up_to_neighbor = c.push_flag-2.ensures.bytes ∙ ap (with_param param.Neighbor (printed_value p param.Neighbor)) up_to_capability in
    let up_to_crc = c.push_flag-3.ensures.bytes ∙ ap (with_param param.Crc (printed_value p param.Crc)) up_to_neighbor in
    let up_to_sorting = c.push_flag-4.ensures.bytes ∙ ap (with_param param.Sorting (printed_value p param.Sorting)) up_to_crc in
    let up_to_interleaving = c.push_number.ensures.bytes ∙ ap (with_param param.Interleaving (printed_value p param.Interleaving)) up_to_sorting in
    let up_to_maxred = c.push_number-2.ensures.bytes ∙ ap (with_param param.MaxRed (printed_value p param.MaxRed)) up_to_interleaving in
    up_to_maxred ∙ text_is p
