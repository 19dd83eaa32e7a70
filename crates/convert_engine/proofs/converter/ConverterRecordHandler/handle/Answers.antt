use Rattle.std.proofs.lemmas.Result.{on_ok_weaker}
use Rattle.convert_engine.proofs.converter.ConverterRecordHandler.handle.Goals as goal

pub returns-clause-done : goal.returns-clause-done
returns-clause-done g c = on_ok_weaker c.convert_record.result (λ h hs s. (h.stands hs s, h.out hs s)) c.convert_record.ensures.done
