-- Answering the offer that a whole input is: what is put out, how it ends, and what is noted.
-- This project's own.
use Rattle.std.specs.Prelude.{ℕ, cond, nat_lt, true, List, [], length, Option, Some, None, Result, Ok, Err}
use Rattle.refusals.specs.declared.answer.RefusedType.{RefusedType}
use Rattle.refusals.specs.declared.offer.OfferRefusal.{OfferRefusal}
use Rattle.run_report.specs.Lines.{no_counts}
use Rattle.run_report.specs.declared.counts.Counts.{Counts}
use Rattle.run_report.specs.declared.end.RunEnd.{RunEnd}
use Rattle.run_report.specs.declared.end.RunEnd.TheVariants as end
use Rattle.run_report.specs.declared.report.CountLines.TheVariants as lines
use Rattle.spec_offer.specs.Answers.{Chosen, Wanted, answer_text, answer_to}
use Rattle.spec_offer.specs.Offers.{Offer, offer_of}
use Rattle.spec_run.specs.Meanings.{Meaning}

-- what is to be answered: what is wanted, and the port of the answer
pub record Answering : Type 0 where
  pub wanted : Wanted
  pub port : ℕ

abbrev pub chosen_end : Option Chosen → RunEnd
chosen_end None = end.NoAnswer
chosen_end (Some c) = end.Done

abbrev pub offer_end : Wanted → Result Offer OfferRefusal → RunEnd
offer_end w (Err r) = end.Sdp r
offer_end w (Ok o) = chosen_end (answer_to o w).chosen

-- the first that holds: the input is longer than the limit, the offer is refused, no type suits,
-- or all went well
abbrev pub answer_end : Answering → ℕ → List ℕ → RunEnd
answer_end a limit input =
    cond (nat_lt limit (length input)) end.LimitReached (offer_end a.wanted (offer_of input))

abbrev pub chosen_text : Offer → Answering → Option Chosen → List ℕ
chosen_text o a None = []
chosen_text o a (Some c) = answer_text o a.wanted a.port c

abbrev pub offer_text : Answering → Result Offer OfferRefusal → List ℕ
offer_text a (Err r) = []
offer_text a (Ok o) = chosen_text o a (answer_to o a.wanted).chosen

-- what is put out, all of it behind the last octet of the input: the answer, where one is given
abbrev pub answer_out : Answering → ℕ → List ℕ → List ℕ
answer_out a limit input = cond (nat_lt limit (length input)) [] (offer_text a (offer_of input))

abbrev pub types_refused : Wanted → Result Offer OfferRefusal → List RefusedType
types_refused w (Err r) = []
types_refused w (Ok o) = (answer_to o w).refused

-- what is counted: the types that don't suit, where the offer is read
abbrev pub answer_counts : Answering → ℕ → List ℕ → Counts
answer_counts a limit input = record no_counts {
  refused = record {
    items = cond (nat_lt limit (length input)) [] (types_refused a.wanted (offer_of input));
  };
}

-- what answering means, where at most `limit` octets are taken: nothing is out before all is read,
-- and memory may be wanted once the offer was read
abbrev pub answer_meaning : Answering → ℕ → Meaning
answer_meaning a limit = record {
  limit = limit;
  out = answer_out a limit;
  early = Some (λ read. []);
  end = answer_end a limit;
  counts = answer_counts a limit;
  lines = lines.Answering;
  reads = true;
  reads_first = true;
  lag = None;
}
