-- What a valid plan says of the files that are written by it.
use Rattle.std.proofs.Common.{◌≡◌, ℕ, ◌≤◌, sym, subst, arith}
use Rattle.std.specs.Prelude.{IsTrue}
use Rattle.std.proofs.lemmas.Bool.Decides.{nat_tests}
use Rattle.record_hearing.proofs.Plans.{channels_within}
use Rattle.amr_store.specs.Written.{takes_blocks}
use Rattle.amr_store.specs.declared.writer.Stage.{Stage}
use Rattle.amr_store.specs.declared.writer.Stage.TheVariants.{Open}
use Rattle.amr_playout.specs.Plans.{IsPlan}
use Rattle.amr_playout.specs.declared.plan.Plan.{Plan}

-- a writer of its files takes blocks once it is open
pub takes_at : (plan : Plan) (stage : Stage) (channels : ℕ) → IsPlan plan → stage ≡ Open → channels ≡ plan.profile.channels → IsTrue (takes_blocks stage channels)
takes_at plan stage channels valid begun e =
    let w = channels_within plan valid in
    subst (λ s. IsTrue (takes_blocks s channels)) (sym begun) (subst (λ n. IsTrue (takes_blocks Open n)) (sym e) (both plan.profile.channels w.0 w.1))
  where
    both : (n : ℕ) → 1 ≤ n → n ≤ 6 → IsTrue (takes_blocks Open n)
    both n low high = grind (arith, nat_tests)
