-- What came of an offer, as a run that did what answering means.
use Rattle.std.proofs.Common.{◌≡◌, ◌≢◌, ℕ, ◌≤◌, ◌<◌, true, false, cond, nat_lt, List, [], ◌∷◌, ◌++◌, length, refl, sym, ap, subst, ◌∙◌, arith, length-append, Some, None, Ok, Err}
use Rattle.std.proofs.lemmas.Bool.Decides.{nat_tests}
use Rattle.std.specs.Prelude.{Option, Result}
use Rattle.std.specs.Io.KnownBytes.{Appends, Consumes}
use Rattle.std.proofs.KnownBytes.{Appends-nil}
use Rattle.amr_io.specs.Told.{AppendsFront}
use Rattle.answer_engine.proofs.Filled.{is_some}
use Rattle.answer_engine.specs.Reading.{BreaksOff, IsWhole, PassesLimit}
use Rattle.answer_engine.specs.Replies.{IsAnswered, IsNotWritten}
use Rattle.refusals.specs.declared.offer.OfferRefusal.{OfferRefusal}
use Rattle.run_report.specs.Ends.{IsFinished}
use Rattle.run_report.specs.Lines.{no_counts}
use Rattle.run_report.specs.declared.end.RunEnd.{RunEnd}
use Rattle.run_report.specs.declared.end.RunEnd.TheVariants as end
use Rattle.spec_offer.specs.Answers.{Chosen, answer_text, answer_to}
use Rattle.spec_offer.specs.Answering.{Answering, answer_meaning, chosen_end, chosen_text, offer_end, offer_text, types_refused}
use Rattle.spec_offer.specs.Offers.{Offer, offer_of}
use Rattle.spec_run.specs.Flows.{Calm, Failed, FaultsOf, Flow}
use Rattle.spec_run.specs.Meanings.{Served, Work, Works}

-- a write of the answer failed
pub not_written : (a : Answering) (o : Offer) (c : Chosen) (output : Flow) → Some c ≡ (answer_to o a.wanted).chosen
    → AppendsFront output.told output.told' (answer_text o a.wanted a.port c) → Failed output → IsNotWritten a
    (Ok o) output
not_written a o c output e front failed = record {
  front = subst (λ x. AppendsFront output.told output.told' (chosen_text o a x)) e front;
  failed = failed;
}

-- the ends of an offer
module _ (P : RunEnd → Type 0) (refused : (r : OfferRefusal) → P (end.Sdp r)) (none : P end.NoAnswer)
    (done : P end.Done) where
  of_chosen : (chosen : Option Chosen) → P (chosen_end chosen)
  of_chosen None = none
  of_chosen (Some c) = done

  of_offer : (a : Answering) (offer : Result Offer OfferRefusal) → P (offer_end a.wanted offer)
  of_offer a (Err r) = refused r
  of_offer a (Ok o) = of_chosen (answer_to o a.wanted).chosen

not_read_fault : (a : Answering) (offer : Result Offer OfferRefusal) → offer_end a.wanted offer ≢ end.ReadFault
not_read_fault a offer = of_offer (λ e. e ≢ end.ReadFault) (λ r e. absurd cc) (λ e. absurd cc)
    (λ e. absurd cc) a offer

not_write_fault : (a : Answering) (offer : Result Offer OfferRefusal) → offer_end a.wanted offer ≢ end.WriteFault
not_write_fault a offer = of_offer (λ e. e ≢ end.WriteFault) (λ r e. absurd cc) (λ e. absurd cc)
    (λ e. absurd cc) a offer

pub not_memory : (a : Answering) (offer : Result Offer OfferRefusal) → offer_end a.wanted offer ≢ end.OutOfMemory
not_memory a offer = of_offer (λ e. e ≢ end.OutOfMemory) (λ r e. absurd cc) (λ e. absurd cc) (λ e. absurd cc) a offer

within_is : (limit n : ℕ) → n ≤ limit → false ≡ nat_lt limit n
within_is limit n h = sym (grind (arith, nat_tests, h))

past_is : (limit n : ℕ) → limit < n → true ≡ nat_lt limit n
past_is limit n h = sym (grind (arith, nat_tests, h))

-- it was answered
pub answered : (a : Answering) (limit : ℕ) (w : Work) (octets : List ℕ) → IsWhole limit w.input octets
    → IsAnswered a (offer_of octets) w.output w.report → Works (answer_meaning a limit) w
answered a limit w octets whole reply = record {
  served = λ fine all told.
      let is : octets ≡ all = sym (whole.all all told).0 in
      let here : false ≡ nat_lt limit (length octets) = within_is limit (length octets) whole.within in
      subst (λ l. Served (answer_meaning a limit) l w) is (record {
        end = reply.end ∙ ap (λ b. cond b end.LimitReached (offer_end a.wanted (offer_of octets))) here;
        out = subst (λ b. Appends w.output.told w.output.told'
            (cond b [] (offer_text a (offer_of octets)))) here reply.put;
        counts = reply.counts ∙ ap (λ b. record no_counts {
          refused = record {
            items = cond b []
                (types_refused a.wanted (offer_of octets));
          };
        }) here;
      });
  leaves = record {
    nothing = λ reads done all told. (whole.all all told).1;
    untouched = λ never. absurd cc;
  };
  read_fault = λ e. absurd (not_read_fault a (offer_of octets) (sym reply.end ∙ e));
  write_fault = λ e. absurd (not_write_fault a (offer_of octets) (sym reply.end ∙ e));
  faults = subst (λ e. FaultsOf e w.input w.output) (sym reply.end)
      (of_offer (λ e. FaultsOf e w.input w.output) (λ r. (whole.calm, reply.calm)) (whole.calm, reply.calm)
      (whole.calm, reply.calm) a (offer_of octets));
}

-- a write failed
pub broke_writing : (a : Answering) (limit : ℕ) (w : Work) (octets : List ℕ) → w.report.end ≡ end.WriteFault
    → IsWhole limit w.input octets → IsNotWritten a (offer_of octets) w.output → Works (answer_meaning a limit) w
broke_writing a limit w octets is whole reply = record {
  served = λ fine. absurd (subst IsFinished is fine);
  leaves = record { nothing = λ _ done. absurd cc; untouched = λ never. absurd cc };
  read_fault = λ e. absurd cc;
  write_fault = λ _. record {
    read = octets;
    out = reply.front.0;
    took = whole.took;
    put = reply.front.3;
    near = tt;
    part = λ all told.
        let same : octets ≡ all = sym (whole.all all told).0 in
        let here : false ≡ nat_lt limit (length octets) = within_is limit (length octets) whole.within in (
          reply.front.1,
          subst (λ l. cond (nat_lt limit (length l)) [] (offer_text a (offer_of l)) ≡ reply.front.0
              ++ reply.front.1) same
              (sym (ap (λ b. cond b [] (offer_text a (offer_of octets))) here) ∙ reply.front.2),
        );
  };
  faults = subst (λ e. FaultsOf e w.input w.output) (sym is) (whole.calm, reply.failed);
}

-- memory was wanted
pub no_memory : (a : Answering) (limit : ℕ) (w : Work) → w.report.end ≡ end.OutOfMemory
    → Calm w.input → Calm w.output → Works (answer_meaning a limit) w
no_memory a limit w is input output = record {
  served = λ fine. absurd (subst IsFinished is fine);
  leaves = record { nothing = λ _ done. absurd cc; untouched = λ never. absurd cc };
  read_fault = λ e. absurd cc;
  write_fault = λ e. absurd cc;
  faults = subst (λ e. FaultsOf e w.input w.output) (sym is) (input, output);
}

-- a read failed
pub broke_reading : (a : Answering) (limit : ℕ) (w : Work) (octets : List ℕ) → w.report.end ≡ end.ReadFault
    → BreaksOff limit w.input octets → w.output.told' ≡ w.output.told → Calm w.output → Works
    (answer_meaning a limit) w
broke_reading a limit w octets is broke same output = record {
  served = λ fine. absurd (subst IsFinished is fine);
  leaves = record { nothing = λ _ done. absurd cc; untouched = λ never. absurd cc };
  read_fault = λ _. record {
    read = octets;
    out = [];
    took = broke.took;
    within = broke.within;
    put = subst (λ t. Appends w.output.told t []) (sym same) (Appends-nil w.output.told);
    early = refl;
    part = λ all told. (_, refl);
  };
  write_fault = λ e. absurd cc;
  faults = subst (λ e. FaultsOf e w.input w.output) (sym is) (broke.failed, output);
}

-- all octets of an input of which some were read
front_length : (told left : Option (List ℕ)) (octets : List ℕ) (one : ℕ) → Consumes told left (octets ++ one ∷ [])
    → (all : List ℕ) → told ≡ Some all → length octets < length all
front_length None left octets one took all e = absurd cc
front_length (Some xs) None octets one took all e = absurd took
front_length (Some xs) (Some ys) octets one took all e =
    subst (λ t. length octets < length t) (is_some e)
    (omega (arith, ap length took, length-append (octets ++ one ∷ []) ys, length-append octets (one ∷ [])))

-- the input is longer than the limit
pub went_past : (a : Answering) (limit : ℕ) (w : Work) (octets : List ℕ) → w.report.end ≡ end.LimitReached
    → w.report.counts ≡ no_counts → PassesLimit limit w.input octets → w.output.told' ≡ w.output.told → Calm w.output
    → Works (answer_meaning a limit) w
went_past a limit w octets is counts past same output = record {
  served = λ fine all told.
      let long : length octets < length all =
      front_length w.input.told w.input.told' octets past.one past.took all told in
      let here : true ≡ nat_lt limit (length all) = past_is limit (length all) (omega (arith, long, past.full)) in
      record {
        end = is ∙ ap (λ b. cond b end.LimitReached (offer_end a.wanted (offer_of all))) here;
        out = subst (λ b. Appends w.output.told w.output.told' (cond b [] (offer_text a (offer_of all)))) here
            (subst (λ t. Appends w.output.told t []) (sym same) (Appends-nil w.output.told));
        counts = counts ∙ ap (λ b. record no_counts {
          refused = record {
            items = cond b []
                (types_refused a.wanted (offer_of all));
          };
        }) here;
      };
  leaves = record { nothing = λ _ done. absurd cc; untouched = λ never. absurd cc };
  read_fault = λ e. absurd cc;
  write_fault = λ e. absurd cc;
  faults = subst (λ e. FaultsOf e w.input w.output) (sym is) (past.calm, output);
}
