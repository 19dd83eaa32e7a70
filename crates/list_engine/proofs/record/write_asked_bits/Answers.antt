use Rattle.std.proofs.Common.{Bool, [], cond, subst, sym, Ok}
use Rattle.amr_io.specs.declared.source.Failed.{Failed}
use Rattle.list_engine.proofs.Written.{nothing}
use Rattle.list_engine.specs.Payloads.{all_bits_said}
use Rattle.run_report.specs.Written.{Writes}
use Rattle.list_engine.proofs.record.write_asked_bits.Goals as goal

pub returns : goal.returns
returns g c =
    let output = c.args.output.now in
    subst (λ (b : Bool). Writes {E = Failed} g.O.Sink (cond b (all_bits_said c.args.view.now) [])
    output output (Ok tt))
    (sym c.if-asked.false) (nothing g.O.Sink g.met.O.Sink.reflexive output)
