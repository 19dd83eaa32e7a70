use Rattle.std.proofs.Common.{◌∷◌, []}
use Rattle.log_engine.proofs.GrowsLemmas.{Grows-through, Grows-writes}
use Rattle.log_engine.proofs.gather_sink.GatherSinkSink.write_headed.Goals as goal

pub returns-then-room-body-clause-same : goal.returns-then-room-body-clause-same
returns-then-room-body-clause-same g c =
    let flushed = c.flush.ensures.step.same in (
      flushed.reference,
      g.met.O.Sink.transitive _ _ _ flushed.same c.write.ensures.same,
      Grows-through _ _ _ flushed.grows
          (Grows-writes _ _ c.write.result (c.args.head ∷ []) c.write.ensures.octets),
    )
