use Rattle.std.proofs.Common.{ℕ, [], ◌∷◌, subst}
use Rattle.amr_payload.specs.Octets.{interleaving_part}
use Rattle.amr_payload.proofs.Comparing.{joined}
use Rattle.amr_toc.specs.Viewed.{octets_of, said}
use Rattle.amr_payload.specs.Comparing.{Has}
use Rattle.std.proofs.Common.{◌*◌}
use Rattle.amr_payload.proofs.compare.compare_header.Goals as goal

pub returns-in-Ok : goal.returns-in-Ok
returns-in-Ok c =
    let view = c.args.view.now in
    joined (octets_of view) 0 ((16 * (said view).cmr) ∷ []) (interleaving_part c.args.profile.now.interleaving (said view)) c.in-Ok.end c.compare_interleaving.result
    (subst (λ (n : ℕ). Has (octets_of view) 0 ((16 * n) ∷ []) c.in-Ok.end) c.cmr.ensures c.in-Ok.ensures) c.compare_interleaving.ensures
