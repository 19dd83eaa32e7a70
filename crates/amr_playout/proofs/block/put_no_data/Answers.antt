use Rattle.std.proofs.Common.{◌≡◌, ◌+◌, ◌-◌, ◌++◌, ◌∷◌, ℕ, zero, suc, List, replicate, refl, ap, subst, sym, ◌∙◌, arith}
use Rattle.std.proofs.lemmas.List.{replicate_more}
use Rattle.amr_frame.proofs.BlocksLemmas.{GotBlocks-more, GotPrefix-part}
use Rattle.amr_frame.specs.Blocks.{GotBlocks, GotPrefix, IsPresentBlock, frames_of}
use Rattle.amr_frame.specs.Frames.{Frame, no_data}
use Rattle.amr_playout.proofs.Results.{on_err}
use Rattle.amr_playout.proofs.block.put_no_data.Goals as goal

-- one more of n is the next, and the rest behind it
rest : {X : Type 0} (k m : ℕ) (x : X) → replicate (k + suc m) x ≡ replicate k x ++ x ∷ replicate m x
rest zero m x = let e : zero + suc m ≡ suc m = omega arith in rw (e) refl
rest (suc k) m x = let e : suc k + suc m ≡ suc (k + suc m) = omega arith in rw (e) (ap (λ xs. x ∷ xs) (rest k m x))

pub loop-init : goal.loop-init
loop-init g c = record {
  got = refl;
  ready = c.requires.sink.ready;
  codec = refl;
  channels = c.requires.sink.channels;
  faults = refl;
  same = g.met.B.BlockSink.reflexive c.args.out.now;
}

pub put_block-requires-clause-block : goal.put_block-requires-clause-block
put_block-requires-clause-block g c =
    subst (λ n. IsPresentBlock (g.B.BlockSink.codec c.loop.out) n c.deref.result.now) (sym c.loop.invariant.channels)
    (subst (IsPresentBlock (g.B.BlockSink.codec c.loop.out) c.args.channels) (sym c.deref.ensures.0)
    (c.missing_block-block.ensures.block (g.B.BlockSink.codec c.loop.out)))

pub returns-in_err-put_block-clause-part : goal.returns-in_err-put_block-clause-part
returns-in_err-put_block-clause-part g c =
    let k : ℕ = c.loop.counter in
    let block : List Frame = replicate c.args.channels no_data in
    let is : frames_of c.deref.result.now ≡ block =
    ap frames_of c.deref.ensures.0 ∙ c.missing_block-block.ensures.frames in
    let all : c.args.count ≡ k + suc (c.args.count - (k + 1)) = omega (arith, c.loop-test.true) in
    on_err c.from_residual.result _
    (subst (λ bs. GotPrefix g.B.BlockSink.whole g.B.BlockSink.part c.args.out.now bs c.put_block.new.self)
    (sym (ap (λ n. replicate n block) all ∙ rest k (c.args.count - (k + 1)) block))
    (GotPrefix-part g.B.BlockSink.whole g.B.BlockSink.part c.args.out.now (replicate k block) c.loop.out block
    (replicate (c.args.count - (k + 1)) block) c.put_block.new.self
    c.loop.invariant.got (subst (λ b. g.B.BlockSink.part c.loop.out b c.put_block.new.self) is
    c.in_err-put_block.ensures.part)))

pub loop-preserved : goal.loop-preserved
loop-preserved g c =
    let k : ℕ = c.loop.counter in
    let block : List Frame = replicate c.args.channels no_data in
    let is : frames_of c.deref.result.now ≡ block =
    ap frames_of c.deref.ensures.0 ∙ c.missing_block-block.ensures.frames in
    record {
      got =
          subst (λ bs. GotBlocks g.B.BlockSink.whole c.args.out.now bs c.put_block.new.self) (replicate_more k block)
          (GotBlocks-more g.B.BlockSink.whole c.args.out.now (replicate k block) c.loop.out block c.put_block.new.self
          c.loop.invariant.got (subst (λ b. g.B.BlockSink.whole c.loop.out b c.put_block.new.self) is
          c.in_ok-put_block.ensures.whole));
      ready = c.in_ok-put_block.ensures.ready;
      codec = c.in_ok-put_block.ensures.kept.0 ∙ c.loop.invariant.codec;
      channels = c.in_ok-put_block.ensures.kept.1 ∙ c.loop.invariant.channels;
      faults = c.in_ok-put_block.ensures.cause ∙ c.loop.invariant.faults;
      same =
          g.met.B.BlockSink.transitive c.args.out.now c.loop.out c.put_block.new.self c.loop.invariant.same
          c.put_block.ensures.same;
    }

pub returns-clause-out : goal.returns-clause-out
returns-clause-out g c =
    let end : c.loop.counter ≡ c.args.count = omega arith in
    subst (λ n. GotBlocks g.B.BlockSink.whole c.args.out.now (replicate n (replicate c.args.channels no_data))
    c.loop.out) end c.loop.invariant.got
