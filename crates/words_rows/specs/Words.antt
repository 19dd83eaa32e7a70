-- The words of the worked examples of command lines.
use Rattle.std.specs.Prelude.{◌≡◌, ℕ, Bool, false, true, nat_eq, List, [], ◌∷◌, Option, None, Some}
use Rattle.std.specs.List.{AllByRecursion, slice_split}
use Rattle.amr_frame.specs.declared.codec.Codec.TheVariants.{Amr, AmrWb}
use Rattle.amr_frame.specs.declared.profile.Profile.{Profile}
use Rattle.spec_listing.specs.Listing.{Listing}
use Rattle.spec_modes.specs.Desk.{DeskPlan}
use Rattle.spec_offer.specs.Answering.{Answering}
use Rattle.spec_offer.specs.Answers.{Wanted}
use Rattle.spec_record.specs.Recording.{Recording}
use Rattle.spec_run.specs.Meanings.{Meaning}
use Rattle.spec_sending.specs.declared.plan.SendPlan.{SendPlan}
use Rattle.spec_session.specs.Session.{rules_of}
use Rattle.spec_trial.specs.Trials.{Trial}
use Rattle.worked_rows.specs.Words.{packed, plan, recording}
use Rattle.spec_jobs.specs.Jobs.{AnswerOffer, ConvertLog, Job, RecordLog, StreamFile, job_of, meaning_of}

-- what the words of a line ask for, which stand between single spaces
abbrev pub asks : List ℕ → Option Job
asks line = job_of (slice_split (λ o. nat_eq o 32) line)

-- a line gives no job, or this one
abbrev pub NoJob : List ℕ → Type 0
NoJob line = asks line ≡ None

-- none of these lines gives one
abbrev pub NoJobs : List (List ℕ) → Type 0
NoJobs lines = AllByRecursion NoJob lines

abbrev pub Gives : List ℕ → Job → Type 0
Gives line job = asks line ≡ Some job

-- the most octets of a log or a file
abbrev pub most : ℕ
most = 1099511627776

-- the format of AMR-WB that is packed, with its nine modes
abbrev pub wide : Profile
wide = record packed { codec = AmrWb; modes = 511 }

-- the format of the long line of `convert`: what it receives, and what it sends
abbrev pub wide_received : Profile
wide_received = record wide {
  channels = 2;
  octet_aligned = true;
  crc = true;
  max_blocks = 12;
}

abbrev wide_format : Profile
wide_format = record wide_received { crc = false; interleaving = Some 8; max_blocks = 64 }

-- what the packets that are sent carry; they are groups of four, of two blocks each
abbrev wide_packets : SendPlan
wide_packets = record (plan wide_format) { cmr = 8; pt = 98; ssrc = 1; seq = 2; ts = 3 }

abbrev pub wide_sent : SendPlan
wide_sent = record wide_packets { blocks = 2; length = 4; skip_empty = true }

abbrev pub wide_recording : Recording
wide_recording =
    record { profile = wide_received; asked = Some 97; rules = rules_of wide_received 300 100 }

-- a desk of these modes that starts at one of them
abbrev pub desk : List ℕ → ℕ → DeskPlan
desk modes start =
    record { codec = Amr; modes = modes; neighbor = false; period = 1; start = start }

-- a listing of frames of any payload type, of this format and with this desk
abbrev pub listed : Profile → DeskPlan → Listing
listed p d = record { profile = p; asked = None; desk = d; bits = false }

-- a trial of one format with this window
abbrev pub tried : ℕ → ℕ → Profile → ℕ → Trial
tried count seed p window =
    record { count = count; seed = seed; sending = plan p; recording = recording p window }

abbrev pub eight : List ℕ
eight = 0 ∷ 1 ∷ 2 ∷ 3 ∷ 4 ∷ 5 ∷ 6 ∷ 7 ∷ []

-- what is wanted of AMR in one channel: these modes, CRCs and sorting or neither, and groups of at
-- most so many blocks
abbrev wanted_of : Bool → ℕ → List ℕ → Wanted
wanted_of on most ms =
    record { codec = Amr; channels = 1; modes = ms; crc = on; sorting = on; interleaving = most }

-- an answer that takes these modes, anything else, and names port 9
abbrev pub wants : List ℕ → Answering
wants modes = record { wanted = wanted_of true 65535 modes; port = 9 }

-- what the jobs of lines with a codec alone mean
abbrev pub recording_means : Meaning
recording_means = meaning_of (RecordLog (recording packed 256) most)

abbrev pub stream_means : Meaning
stream_means = meaning_of (StreamFile (plan packed) most)

abbrev pub conversion_means : Meaning
conversion_means = meaning_of (ConvertLog (recording packed 256) (plan packed) most)

abbrev pub answer_means : Meaning
answer_means = meaning_of (AnswerOffer (wants eight) 65536)
