use Rattle.std.proofs.Common.{◌<◌, sym, subst}
use Rattle.std.proofs.lemmas.List.{length-map}
use Rattle.amr_sdp.proofs.Going.{valid_at}
use Rattle.amr_sdp.specs.Types.{IsValid, type_said}
use Rattle.amr_sdp.proofs.offer.Offer.item.Goals as goal

pub returns-clause-valid : goal.returns-clause-valid
returns-clause-valid c = λ are.
    let types = c.args.self.now.types.items in
    subst IsValid (sym c.index.ensures)
    (valid_at types c.args.at c.index.result.now (subst (λ n. c.args.at < n) (length-map types type_said) c.requires) are)
