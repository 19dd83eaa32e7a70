use Rattle.std.proofs.Common.{refl, ap, subst, ◌∙◌, Ok}
use Rattle.amr_io.specs.Fault.{HasCause, Rose}
use Rattle.amr_io.specs.Inlet.{Fills}
use Rattle.answer_engine.proofs.Filled.{begins, usable, has_room, goes_on, less_left, is_whole, passes, breaks_off}
use Rattle.answer_engine.proofs.read.read_whole.Goals as goal

pub reading-init : goal.reading-init
reading-init g c = record { so_far = begins _ _ c.requires.fresh; calm = refl }

pub fill-requires-clause-usable : goal.fill-requires-clause-usable
fill-requires-clause-usable g c = usable _ _ _ _ c.reading.invariant.so_far

pub fill-requires-clause-room : goal.fill-requires-clause-room
fill-requires-clause-room g c = has_room _ _ _ _ c.reading.invariant.so_far

pub reading-smaller : goal.reading-smaller
reading-smaller g c =
    let so_far = c.reading.invariant.so_far in
    let is = c.in-Ok-More.is ∙ ap Ok c.in-Ok-More.field-0-is in
    less_left _ _ _ _ c.reading.inlet c.fill.new.self so_far c.in-Ok-More.field-0-0
    (subst
    (Fills (g.I.Source.left c.reading.input)
    (g.I.Source.left c.fill.new.source) c.reading.inlet c.fill.new.self) is
    (c.fill.ensures.«open» so_far.still))

pub reading-preserved : goal.reading-preserved
reading-preserved g c =
    let so_far = c.reading.invariant.so_far in
    let is = c.in-Ok-More.is ∙ ap Ok c.in-Ok-More.field-0-is in
    let faults = g.I.Source.faults in
    record {
      so_far = goes_on _ _ _ _ c.reading.inlet c.fill.new.self so_far c.in-Ok-More.field-0-0
          (subst (Fills (g.I.Source.left c.reading.input)
          (g.I.Source.left c.fill.new.source) c.reading.inlet c.fill.new.self) is
          (c.fill.ensures.«open» so_far.still));
      calm = subst (HasCause (faults c.reading.input) (faults c.fill.new.source)) is c.fill.ensures.cause
          ∙ c.reading.invariant.calm;
    }

pub returns-in-Ok-End : goal.returns-in-Ok-End
returns-in-Ok-End g c =
    let so_far = c.reading.invariant.so_far in
    let is = c.in-Ok-End.is ∙ ap Ok c.in-Ok-End.field-0-is in
    let faults = g.I.Source.faults in
    let filled = subst (Fills (g.I.Source.left c.reading.input)
    (g.I.Source.left c.fill.new.source) c.reading.inlet c.fill.new.self) is
    (c.fill.ensures.«open» so_far.still) in
    is_whole _ _ _ _ c.reading.inlet c.fill.new.self so_far (faults c.args.input.now) (faults c.fill.new.source)
    (subst (HasCause (faults c.reading.input) (faults c.fill.new.source)) is c.fill.ensures.cause
    ∙ c.reading.invariant.calm)
    filled.0 filled.1 (ap (λ t. t.held) filled.2)

pub returns-in-Ok-OverLimit : goal.returns-in-Ok-OverLimit
returns-in-Ok-OverLimit g c =
    let so_far = c.reading.invariant.so_far in
    let is = c.in-Ok-OverLimit.is ∙ ap Ok c.in-Ok-OverLimit.field-0-is in
    let faults = g.I.Source.faults in
    passes _ _ _ _ c.reading.inlet c.fill.new.self so_far (faults c.args.input.now) (faults c.fill.new.source)
    (subst (HasCause (faults c.reading.input) (faults c.fill.new.source)) is c.fill.ensures.cause
    ∙ c.reading.invariant.calm)
    (subst
    (Fills (g.I.Source.left c.reading.input)
    (g.I.Source.left c.fill.new.source) c.reading.inlet c.fill.new.self) is
    (c.fill.ensures.«open» so_far.still))

pub returns-in-Err : goal.returns-in-Err
returns-in-Err g c =
    let so_far = c.reading.invariant.so_far in
    let faults = g.I.Source.faults in
    let filled = subst (Fills (g.I.Source.left c.reading.input)
    (g.I.Source.left c.fill.new.source) c.reading.inlet c.fill.new.self) c.in-Err.is
    (c.fill.ensures.«open» so_far.still) in
    breaks_off _ _ _ _ c.reading.inlet c.fill.new.self so_far (faults c.args.input.now) (faults c.fill.new.source)
    (subst (λ n. Rose n (faults c.fill.new.source)) c.reading.invariant.calm
    (subst (HasCause (faults c.reading.input) (faults c.fill.new.source)) c.in-Err.is c.fill.ensures.cause))
    filled.0 (ap (λ t. t.held) filled.1)
