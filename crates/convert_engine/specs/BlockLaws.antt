-- That sending by the same sender to the same output is reflexive and transitive: laws that the
-- sender of blocks names, which is why they stand here.
use Rattle.std.proofs.Common.{refl, ◌∙◌, ℕ, List, Option}
use Rattle.convert_engine.specs.BlockSending.{Stays}
use Rattle.convert_engine.specs.declared.block_sender.BlockSender.{BlockSender}

-- what one knows of a sink: what stands beside its octets, and which sinks write to the same object
module _ {O : Type 0} (aside : O → Option (List (List ℕ × List ℕ))) (alike : O → O → Type 0) where
  -- it stays itself
  pub itself : ((s : O) → alike s s) → (s : BlockSender O) → Stays aside alike s s
  itself r s = record {
    sender = refl;
    output = refl;
    plan = refl;
    object = r s.output.now;
    beside = refl;
  }

  -- what stays the same through two steps does so through both
  pub through : ((a b c : O) → alike a b → alike b c → alike a c)
      → (s t u : BlockSender O) → Stays aside alike s t → Stays aside alike t u
      → Stays aside alike s u
  through r s t u p q = record {
    sender = q.sender ∙ p.sender;
    output = q.output ∙ p.output;
    plan = q.plan ∙ p.plan;
    object = r s.output.now t.output.now u.output.now p.object q.object;
    beside = q.beside ∙ p.beside;
  }
