use Rattle.std.proofs.Common.{[], ◌∷◌, refl}
use Rattle.std.proofs.lemmas.Result.{on_err_weaker}
use Rattle.amr_frame.specs.Blocks.{frames_of}
use Rattle.amr_frame.proofs.BlocksLemmas.{GotPrefix-part}
use Rattle.amr_frame.proofs.tests.put_two.Goals as goal

pub returns-clause-part : goal.returns-clause-part
returns-clause-part g c =
    on_err_weaker c.put_block-2.result
    (λ part. GotPrefix-part _ _ c.args.sink.now (frames_of c.args.first.now ∷ []) _ (frames_of c.args.second.now) [] _ (_, c.in_ok-put_block.ensures.whole, refl) part)
    c.put_block-2.ensures.part
