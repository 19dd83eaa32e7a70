-- A segment that begins: the rest of the one before goes out, and then the packet is accepted as the first.
use Rattle.std.proofs.Common.{◌≡◌, ℕ, ◌+◌, ◌^◌, List, [], ◌∷◌, ◌++◌, ap, ◌∙◌, refl, subst, arith, append_assoc}
use Rattle.std.proofs.Common.{Option, None, Result, Ok, Err}
use Rattle.std.specs.Result.{IsErr}
use Rattle.amr_frame.specs.declared.block_sink.BlockSink as blocks
use Rattle.amr_frame.specs.declared.cell.Cell.{Cell}
use Rattle.amr_frame.proofs.BlocksLemmas.{GotBlocks-append, GotPrefix-behind, GotPrefix-longer}
use Rattle.amr_frame.specs.Frames.{Frame}
use Rattle.amr_io.specs.Fault.{HasCause}
use Rattle.amr_playout.proofs.Results.{on_ok_then}
use Rattle.amr_playout.specs.declared.plan.Plan.{Plan}
use Rattle.amr_playout.specs.declared.session.Begun.{Begun}
use Rattle.amr_playout.specs.declared.step.Step.{Step}
use Rattle.amr_playout.specs.Plans.{rules_in}
use Rattle.amr_playout.specs.Steps.{Accepts, AcceptsPart, Renews, RenewsPart, Restarts, RestartsPart, StaysReady}
use Rattle.circular_buffer.specs.Buffer.{Buffer}
use Rattle.spec_session.specs.Packets.{Packet}
use Rattle.spec_session.specs.Release.{gone_of}
use Rattle.spec_session.specs.Session.{begun}

-- what has gone out, then more, and then what is more than nothing
joined : {B : Type 0} (gone all less more first : List B) → all ≡ gone ++ less → first ≡ [] ++ more
    → all ++ first ≡ gone ++ (less ++ more)
joined gone all less more first a b =
    ap (λ bs. bs ++ first) a ∙ ap (λ bs. (gone ++ less) ++ bs) b ∙ append_assoc gone less more

module _ {S : Type 0} (b : blocks.Ghosts S) (plan : Plan) (before : Option Begun) (x : Packet) (ring mid : Buffer Cell)
    (old between new : S) where
  -- what the first packet of the segment puts out
  abbrev first : List (List Frame)
  first = gone_of (rules_in plan) (begun x ∷ [])

  pub renews : (ring' : Buffer Cell) (rest : ℕ) (s : Step) → Restarts b plan before ring mid old between rest
      → Accepts b plan None x (2 ^ 24) mid ring' between new s
      → Renews b plan before x ring ring' old new (record {
        session = s.session;
        late = s.late;
        copies = s.copies;
        released = rest + s.released;
      })
  renews ring' rest s r a = record {
    holds = λ acc kept. a.holds [] (r.over acc kept);
    out = λ acc kept.
        (let one = r.out acc kept in
        let two = a.out [] (r.over acc kept) in record {
          blocks = one.blocks ++ two.blocks;
          got = GotBlocks-append b.whole old one.blocks between two.blocks new one.got two.got;
          more_by = joined (gone_of (rules_in plan) acc) _ one.blocks two.blocks first one.more_by two.more_by;
        });
    counted = λ acc kept.
        (let one = r.counted acc kept in
        let two = a.counted [] (r.over acc kept) in
        omega (arith, one, two));
    copies = λ acc kept. (let one = a.copies [] (r.over acc kept) in omega (arith, one));
    late = a.late;
    inside = a.inside;
    horizon = (let is = a.horizon in let fits = a.fits in omega (arith, is, fits));
    few = a.few;
    rest = (let few = r.few in let none = a.none refl in omega (arith, few, none));
  }

  -- it fails on the rest of the segment before
  pub rest_part : RestartsPart b plan before ring old new → RenewsPart b plan before x ring old new
  rest_part r acc kept =
      let one = r acc kept in record {
        blocks = one.blocks ++ first;
        got = GotPrefix-longer b.whole b.part old one.blocks first new one.got;
        more_by = ap (λ bs. bs ++ first) one.more_by ∙ append_assoc (gone_of (rules_in plan) acc) one.blocks first;
      }

  -- it fails on the packet
  pub first_part : (rest : ℕ) → Restarts b plan before ring mid old between rest
      → AcceptsPart b plan None x (2 ^ 24) mid between new → RenewsPart b plan before x ring old new
  first_part rest r p acc kept =
      let one = r.out acc kept in
      let two = p [] (r.over acc kept) in record {
        blocks = one.blocks ++ two.blocks;
        got = GotPrefix-behind b.whole b.part old one.blocks between two.blocks new one.got two.got;
        more_by = joined (gone_of (rules_in plan) acc) _ one.blocks two.blocks first one.more_by two.more_by;
      }

-- two steps, the first of which went well
pub stays_after : {S A C E : Type 0} (b : blocks.Ghosts S) → ((x y z : S) → b.same x y → b.same y z → b.same x z)
    → (plan : Plan) (mid new : Buffer Cell) (o p q : S) (a : A) (r : Result C E)
    → StaysReady {E = E} b plan mid o p (Ok a) → StaysReady b plan new p q r → StaysReady b plan new o q r
stays_after b goes plan mid new o p q a r s t = record {
  ringed = t.ringed;
  step = record {
    cause = subst (λ k. HasCause k (b.faults q) r) s.step.cause t.step.cause;
    same = goes o p q s.step.same t.step.same;
    ready = t.step.ready;
    kept = on_ok_then r _ _ (λ k. (k.0 ∙ s.step.kept.0, k.1 ∙ s.step.kept.1)) t.step.kept;
  };
}

-- a step that went wrong, told of the answer that the caller gives
pub stays_wrong : {S A C E : Type 0} (b : blocks.Ghosts S) (plan : Plan) (ring : Buffer Cell) (p q : S) (e : E)
    (r : Result C E)
    → IsErr r → StaysReady {A = A} b plan ring p q (Err e) → StaysReady b plan ring p q r
stays_wrong b plan ring p q e (Ok a) wrong s = absurd cc
stays_wrong b plan ring p q e (Err f) wrong s = record {
  ringed = s.ringed;
  step = record { cause = s.step.cause; same = s.step.same; ready = s.step.ready; kept = s.step.kept };
}
