use Rattle.std.proofs.Common.{◌++◌, ◌∷◌, [], take, ap, ◌∙◌, arith, append_assoc, slice_set}
use Rattle.std.proofs.lemmas.List.{take_more_set}
use Rattle.std.specs.Prelude.{slice_range}
use Rattle.log_engine.proofs.TrayLemmas.{put_behind}
use Rattle.log_engine.proofs.gather.put_headed.Goals as goal

pub returns-clause-front : goal.returns-clause-front
returns-clause-front c = λ from count before some.
    let tray = c.args.tray.now in
    let at = c.args.at in
    let head = c.args.head in
    let octets = c.args.octets.now in
    let headed = put_behind tray (slice_set tray at head) (head ∷ []) from at before
    (omega (arith, c.requires)) (take_more_set tray at head (omega (arith, c.requires))) in
    c.put_at.ensures.front from count (omega (arith, before)) some
    ∙ ap (λ front. front ++ take count octets) headed
    ∙ append_assoc (slice_range tray from at) (head ∷ []) (take count octets)
