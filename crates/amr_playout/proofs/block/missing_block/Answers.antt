use Rattle.std.proofs.Common.{◌≡◌, ◌++◌, ℕ, zero, suc, List, [], ◌∷◌, IsTrue, length, replicate, ap, subst, sym, ◌∙◌, arith}
use Rattle.std.specs.List.{AllByRecursion}
use Rattle.std.proofs.lemmas.List.{length-replicate, replicate_more}
use Rattle.amr_frame.specs.Blocks.{frames_of}
use Rattle.amr_frame.specs.declared.cell.Cell.{Cell}
use Rattle.amr_frame.specs.declared.codec.Codec.{Codec}
use Rattle.amr_frame.specs.Frames.{IsFrame, no_data}
use Rattle.amr_playout.proofs.CellLists.{all-more, frames-more}
use Rattle.amr_playout.proofs.Fronts.{no_data_is}
use Rattle.amr_playout.proofs.block.missing_block.Goals as goal

all_no_data : (codec : Codec) (n : ℕ) → AllByRecursion (IsFrame codec) (replicate n no_data)
all_no_data codec zero = tt
all_no_data codec (suc n) = (no_data_is codec, all_no_data codec n)

pub loop-preserved : goal.loop-preserved
loop-preserved c =
    let xs : List Cell = c.loop.block.items in
    let x : Cell = c.no_data.result in
    record {
      size = (let l = c.push.ensures.len in let s = c.loop.invariant.size in omega arith);
      frames =
          ap frames_of c.push.ensures.items ∙ frames-more xs x
          ∙ ap (λ fs. fs ++ frames_of (x ∷ [])) c.loop.invariant.frames
          ∙ ap (λ f. replicate c.loop.counter no_data ++ f ∷ []) c.no_data.ensures.like_absent
          ∙ replicate_more c.loop.counter no_data;
      present =
          subst (AllByRecursion (λ (cell : Cell). IsTrue cell.present)) (sym c.push.ensures.items)
          (all-more (λ (cell : Cell). IsTrue cell.present) xs x c.loop.invariant.present c.no_data.ensures.present);
    }

pub returns-clause-frames : goal.returns-clause-frames
returns-clause-frames c =
    let end : c.loop.counter ≡ c.args.channels = omega arith in
    c.loop.invariant.frames ∙ ap (λ n. replicate n no_data) end

pub returns-clause-block : goal.returns-clause-block
returns-clause-block c = λ codec.
    let end : c.loop.counter ≡ c.args.channels = omega arith in
    let frames : frames_of c.loop.block.items ≡ replicate c.args.channels no_data =
    c.loop.invariant.frames ∙ ap (λ n. replicate n no_data) end in
    record {
      present = c.loop.invariant.present;
      block = record {
        whole = ap length frames ∙ length-replicate c.args.channels no_data;
        frames = subst (AllByRecursion (IsFrame codec)) (sym frames) (all_no_data codec c.args.channels);
      };
    }
