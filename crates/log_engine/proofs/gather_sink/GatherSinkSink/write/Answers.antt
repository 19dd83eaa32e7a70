use Rattle.log_engine.proofs.GrowsLemmas.{Grows-through, Grows-writes}
use Rattle.log_engine.proofs.gather_sink.GatherSinkSink.write.Goals as goal

pub returns-then-room-bytes-clause-same : goal.returns-then-room-bytes-clause-same
returns-then-room-bytes-clause-same g c =
    let flushed = c.flush.ensures.step.same in (
      flushed.reference,
      g.met.O.Sink.transitive _ _ _ flushed.same c.write.ensures.same,
      Grows-through _ _ _ flushed.grows (Grows-writes _ _ c.write.result _ c.write.ensures.octets),
    )
