-- That writing to the same sink is reflexive and transitive: laws that the writer of logs names,
-- which is why they stand here.
use Rattle.std.proofs.Common.{refl, ◌∙◌, ℕ, List, Option}
use Rattle.rtp_packet.specs.LogWritten.{SameLog}
use Rattle.rtp_packet.specs.declared.log_writer.LogWriter.{LogWriter}

-- what one knows of a sink: what stands beside its octets, and which sinks write to the same object
module _ {O : Type 0} (aside : O → Option (List (List ℕ × List ℕ))) (alike : O → O → Type 0) where
  -- a writer writes to its own sink
  pub same_log : ((s : O) → alike s s) → (w : LogWriter O) → SameLog aside alike w w
  same_log r w = record { reference = refl; object = r w.sink.now; beside = refl }

  -- what writes to the same sink through two steps does so through both
  pub through : ((a b c : O) → alike a b → alike b c → alike a c)
      → (u v w : LogWriter O) → SameLog aside alike u v → SameLog aside alike v w
      → SameLog aside alike u w
  through t u v w p q = record {
    reference = q.reference ∙ p.reference;
    object = t u.sink.now v.sink.now w.sink.now p.object q.object;
    beside = q.beside ∙ p.beside;
  }
