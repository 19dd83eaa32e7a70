use Rattle.std.proofs.Common.{◌+◌, ◌<◌, ◌∷◌, length, refl, sym, ◌∙◌, ap, rules}
use Rattle.sdp_lines.specs.Lines.{lines_from}
use Rattle.sdp_lines.proofs.FirstLine.{first_line}
use Rattle.sdp_lines.proofs.lines.Lines.next.Goals as goal

pub returns-clause-some : goal.returns-clause-some
returns-clause-some c =
    let lines = c.args.self.now in
    let some : 0 < length lines.rest.now = search rules in
    first_line lines.number lines.rest.now c.cut.result.0.now c.cut.result.1 _ c.unwrap_or.result some c.cut.ensures.split
    c.cut.ensures.whole refl c.unwrap_or.ensures
    ∙ ap (λ t. record { number = lines.number; text = t } ∷ lines_from (lines.number + 1) c.unwrap_or.result.now)
    (sym c.without_return.ensures)
