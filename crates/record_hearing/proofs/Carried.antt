-- What was gained and what a step kept, told of the plan that a caller has.
use Rattle.std.proofs.Common.{◌≡◌, ◌+◌, ◌++◌, [], ◌∷◌, ◌∙◌, List, length, ap, false, true, refl, sym, subst, Err, Ok, Result}
use Rattle.std.specs.Prelude.{IsTrue}
use Rattle.std.proofs.lemmas.List.{append-nil}
use Rattle.record_hearing.proofs.Bounds.{bounded_stray}
use Rattle.record_hearing.proofs.Offered.{refuses}
use Rattle.record_hearing.specs.Going.{IsBounded}
use Rattle.record_hearing.specs.Hearing.{Gaining, HearStep, Offers, gone_for}
use Rattle.record_hearing.specs.declared.heard.Heard.{Heard}
use Rattle.record_hearing.specs.declared.heard.Heard.TheVariants.{NoPlace}
use Rattle.record_hearing.specs.declared.job.RecordJob.{RecordJob}
use Rattle.amr_frame.specs.Frames.{Frame}
use Rattle.amr_frame.specs.Steps.{BlockStep, TakesBlocks}
use Rattle.amr_frame.specs.declared.block_sink.BlockSink as blocks
use Rattle.amr_io.specs.declared.source.Failed.{Failed}
use Rattle.amr_playout.specs.Gains.{Gains}
use Rattle.amr_playout.specs.Offers.{Answers, Fails, Refuses}
use Rattle.amr_playout.specs.Plans.{rules_in}
use Rattle.amr_playout.specs.Receiver.{View}
use Rattle.amr_playout.specs.Steps.{TakesPlan}
use Rattle.amr_playout.specs.declared.answers.Offered.{Offered}
use Rattle.amr_playout.specs.declared.answers.Offered.TheVariants.{BlockFault, Refused}
use Rattle.amr_playout.specs.declared.answers.Refusal.{Refusal}
use Rattle.amr_playout.specs.declared.plan.Plan.{Plan}
use Rattle.spec_segments.specs.Release.{gone_out}
use Rattle.spec_segments.specs.Segments.{accepted}
use Rattle.spec_session.specs.Packets.{Packet}

-- what holds of the blocks of a plan holds of those of the same
pub told_at : (R : Gaining) (f f' : Plan → List (List Frame)) (plan plan' : Plan) → plan ≡ plan'
    → R (f plan) (f' plan) → R (f plan') (f' plan')
told_at R f f' plan plan' e g = subst (λ (p : Plan). R (f p) (f' p)) e g

-- a sink that is as it was gained nothing
pub gained_none : {S B : Type 0} (whole : S → B → S → Type 0) (old new : S) (less more : List B) → new ≡ old
    → more ≡ less → Gains whole old new less more
gained_none whole old new less more same e = record { blocks = []; got = same; more_by = e ∙ sym (append-nil less) }

module _ {S : Type 0} (b : blocks.Ghosts S) where
  -- a step with one answer is one with another that is as good
  pub step_ok : {A E C D : Type 0} (old new : S) (x : A) (y : C) → BlockStep {E = E} b old new (Ok x)
      → BlockStep {E = D} b old new (Ok y)
  step_ok old new x y s = record { cause = s.cause; same = s.same; ready = s.ready; kept = s.kept }

  pub step_err : {A E C D : Type 0} (old new : S) (x : E) (y : D) → BlockStep {A = A} b old new (Err x)
      → BlockStep {A = C} b old new (Err y)
  step_err old new x y s = record { cause = s.cause; same = s.same; ready = s.ready; kept = s.kept }

  -- nothing was done to a sink that takes blocks
  pub step_none : {A E : Type 0} (plan : Plan) (old new : S) (x : A) → ((s : S) → b.same s s)
      → TakesPlan b plan old → new ≡ old → BlockStep {E = E} b old new (Ok x)
  step_none plan old new x law takes e = record {
    cause = ap b.faults e;
    same = subst (b.same old) (sym e) (law old);
    ready = ap b.ready e ∙ takes.ready;
    kept = (ap b.codec e, ap b.channels e);
  }

  -- nothing was done to the receiver and the sink
  pub still : (plan : Plan) (v : View) (s : S) (heard : Heard) → ((s : S) → b.same s s) → TakesPlan b plan s
      → HearStep {E = Failed} b v v s s (Ok heard)
  still plan v s heard law takes = record { plan = refl; step = step_none plan s s heard law takes refl }

-- what an answer says that is a refusal, and one that is a fault
module _ {S : Type 0} (b : blocks.Ghosts S) (v v' : View) (x : Packet) (old new : S) (e : Offered) where
  pub refusal_at : (why : Refusal) → e ≡ Refused why → Answers b v v' x old new (Err e) → Refuses v v' x old new why
  refusal_at why is a = subst (λ t. Answers b v v' x old new (Err t)) is a

  pub fault_at : e ≡ BlockFault → Answers b v v' x old new (Err e) → Fails b v v' x old new
  fault_at is a = subst (λ t. Answers b v v' x old new (Err t)) is a

-- a packet that was refused
pub refused : {S : Type 0} (b : blocks.Ghosts S) (job : RecordJob) (v v' : View) (x : Packet) (old new : S)
    (why : Refusal) → v.plan ≡ job.plan → v.spent ≡ false
    → Refuses v v' x old new why → Offers job v v' x (Gains b.whole old new) NoPlace
refused b job v v' x old new why plan unspent r = record {
  of_session = tt;
  stands = r.stands;
  out = λ h stands.
      gained_none b.whole old new (gone_for job h) (gone_for job (h ++ x ∷ [])) r.sink
      (subst (λ (p : Plan). gone_out (rules_in p) (h ++ x ∷ []) ≡ gone_out (rules_in p) h) plan (r.quiet h stands));
  accepts = λ h stands.
      subst (λ (p : Plan). length (accepted (rules_in p) (h ++ x ∷ [])) ≡ length (accepted (rules_in p) h) + 0) plan
      (refuses (rules_in v.plan) h x why (r.verdict h stands));
  on = record {
    unspent = ap (λ (u : View). u.spent) r.receiver ∙ unspent;
    bounded = λ n m. subst (IsBounded (n + 1)) (sym r.receiver) (bounded_stray n v _ m);
  };
}
