use Rattle.std.proofs.Common.{◌∙◌, ap}
use Rattle.amr_mode.specs.Members.{members}
use Rattle.spec_modes.specs.ModeSets.{within}
use Rattle.amr_sdp.proofs.AllWanted.{all_wanted}
use Rattle.amr_sdp.proofs.answer.wants_all.Goals as goal

pub returns : goal.returns
returns c =
    let wanted = c.args.wanted.now in
    c.within.ensures ∙ ap (λ all. within all (members wanted.modes)) c.all.ensures.modes
    ∙ all_wanted wanted.codec (members wanted.modes) c.requires
