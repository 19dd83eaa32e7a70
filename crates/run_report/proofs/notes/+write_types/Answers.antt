use Rattle.std.proofs.Common.{◌-◌, length, drop, take, subst, flat_map, Err}
use Rattle.run_report.specs.Lines.{type_line}
use Rattle.run_report.specs.Written.{Writes}
use Rattle.run_report.proofs.Fronts.{types_lines, writes_both, writes_first}
use Rattle.run_report.proofs.notes.+write_types.Goals as goal

pub returns-in-Ok : goal.returns-in-Ok
returns-in-Ok g t c =
    let types = c.args.types.now in
    let last = c.write_types.new.notes in
    subst (λ text. Writes g.E.Sink text c.args.notes.now last c.write_types.result)
    (types_lines types _ c.gather_type.result.bytes c.in-len1-up.len_at_least c.gather_type.ensures)
    (writes_both g.E.Sink g.met.E.Sink.transitive _ _ c.args.notes.now c.write_line.new.notes last
    c.write_types.result c.in-Ok.ensures c.write_types.ensures)

pub returns-in-Err : goal.returns-in-Err
returns-in-Err g t c =
    let types = c.args.types.now in
    subst (λ text. Writes g.E.Sink text c.args.notes.now c.write_line.new.notes (Err c.in-Err.failed))
    (types_lines types _ c.gather_type.result.bytes c.in-len1-up.len_at_least c.gather_type.ensures)
    (writes_first g.E.Sink _ (flat_map type_line (take (length types - 1) (drop 1 types))) c.args.notes.now
    c.write_line.new.notes c.in-Err.failed c.in-Err.ensures)
