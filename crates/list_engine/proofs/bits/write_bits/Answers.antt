use Rattle.std.proofs.Common.{◌≡◌, ◌++◌, ◌∙◌, ap, arith, subst, length, List, ℕ, Ok, Err, flat_map}
use Rattle.std.specs.List.{range_with_len}
use Rattle.amr_io.specs.declared.source.Failed.{Failed}
use Rattle.amr_toc.specs.Viewed.{said}
use Rattle.list_engine.proofs.Written.{nothing, write_next, write_stops}
use Rattle.list_engine.specs.Payloads.{bits_said}
use Rattle.run_report.specs.Written.{Writes}
use Rattle.list_engine.proofs.bits.write_bits.Goals as goal

pub loop-at-init : goal.loop-at-init
loop-at-init g c = record { written = nothing g.O.Sink g.met.O.Sink.reflexive c.args.output.now }

pub returns-in-Err : goal.returns-in-Err
returns-in-Err g c =
    let k = g.O.Sink in
    let view = c.args.view.now in
    let at = c.loop-at.at in
    let f = bits_said view in
    let mid = c.loop-at.output in
    let new = c.write.new.output in
    let under = c.loop-at-test.true in
    let count = c.frames-at-end.ensures.said in
    let is : c.push_bits.new.line ≡ f at = c.push_bits.ensures.text ∙ ap (λ t. t ++ f at)
    c.clear.ensures in
    write_stops k g.met.O.Sink.transitive f at (length (said view).frames) c.args.output.now mid new
    c.in-Err.failed
    (omega (arith, under, count)) c.loop-at.invariant.written
    (subst (λ (t : List ℕ). Writes k t mid new (Err c.in-Err.failed)) is c.in-Err.ensures)

pub loop-at-preserved : goal.loop-at-preserved
loop-at-preserved g c =
    let k = g.O.Sink in
    let at = c.loop-at.at in
    let f = bits_said c.args.view.now in
    let mid = c.loop-at.output in
    let new = c.write.new.output in
    let is : c.push_bits.new.line ≡ f at = c.push_bits.ensures.text ∙ ap (λ t. t ++ f at)
    c.clear.ensures in record {
      written = write_next k g.met.O.Sink.transitive f at c.args.output.now mid new (Ok tt)
          c.loop-at.invariant.written
          (subst (λ (t : List ℕ). Writes {E = Failed} k t mid new (Ok tt)) is c.in-Ok.ensures);
    }

pub returns : goal.returns
returns g c =
    let k = g.O.Sink in
    let view = c.args.view.now in
    let low = c.loop-at.auto.at-end in
    let high = c.loop-at-test.false in
    let count = c.frames-at-end.ensures.said in
    let all : c.loop-at.at ≡ length (said view).frames = omega (arith, low, high, count) in
    subst (λ (n : ℕ). Writes {E = Failed} k (flat_map (bits_said view) (range_with_len 0 n))
    c.args.output.now c.loop-at.output (Ok tt))
    all c.loop-at.invariant.written
