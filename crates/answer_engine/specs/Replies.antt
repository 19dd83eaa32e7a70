-- What answering an offer that was read does to the output. This project's own.
use Rattle.std.specs.Prelude.{◌≡◌, Result, Ok, Err}
use Rattle.std.specs.Io.KnownBytes.{Appends}
use Rattle.amr_io.specs.Told.{AppendsFront}
use Rattle.amr_io.specs.declared.sink.Sink as sink
use Rattle.answer_engine.specs.declared.reply.Unanswered.{Unanswered}
use Rattle.answer_engine.specs.declared.reply.Unanswered.TheVariants.{NoMemory, NotWritten}
use Rattle.refusals.specs.declared.offer.OfferRefusal.{OfferRefusal}
use Rattle.run_report.specs.Lines.{no_counts}
use Rattle.run_report.specs.declared.counts.Counts.{Counts}
use Rattle.run_report.specs.declared.report.RunReport.{RunReport}
use Rattle.spec_offer.specs.Answering.{Answering, offer_end, offer_text, types_refused}
use Rattle.spec_offer.specs.Offers.{Offer}
use Rattle.spec_run.specs.Flows.{Calm, Failed, Flow, written_to}

-- the counts of an offer that was read, or refused
abbrev pub offer_counts : Answering → Result Offer OfferRefusal → Counts
offer_counts a offer = record no_counts {
  refused = record { items = types_refused a.wanted offer };
}

-- it was answered: all of the answer is out
pub record IsAnswered (a : Answering) (offer : Result Offer OfferRefusal) (output : Flow)
    (report : RunReport) : Type 0 where
  pub end : report.end ≡ offer_end a.wanted offer
  pub put : Appends output.told output.told' (offer_text a offer)
  pub counts : report.counts ≡ offer_counts a offer
  pub calm : Calm output

-- a write failed: a front of the answer is out
pub record IsNotWritten (a : Answering) (offer : Result Offer OfferRefusal) (output : Flow)
    : Type 0 where
  pub front : AppendsFront output.told output.told' (offer_text a offer)
  pub failed : Failed output

-- what came of an offer
abbrev pub Replies : {B : Type 0} → Answering → Result Offer OfferRefusal → sink.Ghosts B → B → B
    → Result RunReport Unanswered → Type 0
Replies a offer k old new (Ok report) = IsAnswered a offer (written_to k old new) report
Replies a offer k old new (Err NoMemory) = new ≡ old
Replies a offer k old new (Err NotWritten) = IsNotWritten a offer (written_to k old new)
