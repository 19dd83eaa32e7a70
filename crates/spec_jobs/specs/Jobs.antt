-- The job that the words of the command line ask for, and what it means: this project's own.
use Rattle.std.specs.Prelude.{ℕ, Bool, true, ◌&&◌, cond, List, [], ◌∷◌, Option, Some, None, is_none, option_and_then, option_map, unwrap_or, bytes_eq, codes}
use Rattle.std.specs.List.{list_any}
use Rattle.amr_frame.specs.declared.codec.Codec.{Codec}
use Rattle.amr_frame.specs.First.{when}
use Rattle.amr_frame.specs.Profiles.{profile_fault}
use Rattle.spec_listing.specs.Listing.{Listing, list_meaning}
use Rattle.spec_media.specs.Params.{Parameters}
use Rattle.spec_offer.specs.Answering.{Answering, answer_meaning}
use Rattle.spec_record.specs.RecordMeaning.{record_meaning}
use Rattle.spec_record.specs.Recording.{Recording}
use Rattle.spec_run.specs.Meanings.{Meaning}
use Rattle.spec_sending.specs.Plans.{plan_fault}
use Rattle.spec_sending.specs.declared.plan.SendPlan.{SendPlan}
use Rattle.spec_stream.specs.Converting.{convert_meaning}
use Rattle.spec_stream.specs.Streaming.{stream_meaning}
use Rattle.spec_trial.specs.Trials.{Trial, trial_meaning}
use Rattle.spec_words.specs.Given.{codec_of, number_at, number_or, number_or_default, parameters_at, text_at}
use Rattle.spec_jobs.specs.Plans.{answering_of, desk_of, is_receivable, most_blocks, received_format, recording_of, sending_of}
use Rattle.spec_words.specs.Table as option
use Rattle.spec_words.specs.Table.{Row}
use Rattle.spec_words.specs.Words.{Pair, pairs}

-- what the words ask for: each command with what it goes by, and the most octets that it takes
pub data Job : Type 0 where
  RecordLog : Recording → (limit : ℕ) → Job
  StreamFile : SendPlan → (limit : ℕ) → Job
  ConvertLog : Recording → SendPlan → (limit : ℕ) → Job
  ListLog : Listing → (limit : ℕ) → Job
  AnswerOffer : Answering → (limit : ℕ) → Job
  RunTrial : Trial → Job

-- what a job means
abbrev pub meaning_of : Job → Meaning
meaning_of (RecordLog r limit) = record_meaning r limit
meaning_of (StreamFile s limit) = stream_meaning s limit
meaning_of (ConvertLog r s limit) = convert_meaning r s limit
meaning_of (ListLog l limit) = list_meaning l limit
meaning_of (AnswerOffer a limit) = answer_meaning a limit
meaning_of (RunTrial t) = trial_meaning t

-- whether blocks can be sent so: B1 to B4 and B7 to B12
abbrev is_sendable : SendPlan → Bool
is_sendable s = is_none (plan_fault s)

-- whether the plans of a job are valid
abbrev is_valid : Job → Bool
is_valid (RecordLog r limit) = is_receivable r
is_valid (StreamFile s limit) = is_sendable s
is_valid (ConvertLog r s limit) = is_receivable r && is_sendable s
is_valid (ListLog l limit) = is_none (profile_fault l.profile)
is_valid (AnswerOffer a limit) = true
is_valid (RunTrial t) = is_receivable t.recording && is_sendable t.sending

-- a job, where its plans are valid
abbrev pub if_valid : Job → Option Job
if_valid job = when (is_valid job) job

abbrev limit_in : List Pair → ℕ
limit_in given = number_or_default option.limit given

-- the payload type of packets that are sent of a file
abbrev sent_type : List Pair → ℕ
sent_type given = number_or 96 option.pt given

-- what each command is asked for by the media parameters of `--fmtp`
abbrev pub record_asked : Codec → List Pair → Parameters → Job
record_asked c given p =
    RecordLog (recording_of c given (number_at option.pt given) p) (limit_in given)

abbrev pub stream_asked : Codec → List Pair → Parameters → Job
stream_asked c given p = StreamFile (sending_of c given (sent_type given) 64 p) (limit_in given)

-- what is converted is recorded by `--fmtp`, and sent by these other media parameters
abbrev converted_by : Codec → List Pair → Parameters → Parameters → Job
converted_by c given p to = ConvertLog
    (recording_of c given (number_at option.pt given) p)
    (sending_of c given (number_or_default option.to_pt given) 64 to)
    (limit_in given)

abbrev convert_asked : Codec → List Pair → Parameters → Option Job
convert_asked c given p =
    option_map (converted_by c given p) (parameters_at c option.to_fmtp given)

abbrev list_asked : Codec → List Pair → Parameters → Job
list_asked c given p = ListLog (record {
  profile = received_format c given (number_or 64 option.max_blocks given) p;
  asked = number_at option.pt given;
  desk = desk_of c given p;
  bits = bytes_eq (unwrap_or (text_at option.show given) []) (codes "bits");
}) (limit_in given)

-- a trial sends what it made and records what is delivered, in one format
abbrev tried : Codec → List Pair → Parameters → ℕ → Job
tried c given p count = RunTrial (record {
  count = count;
  seed = number_or_default option.seed given;
  sending = sending_of c given 96 (most_blocks given p) p;
  recording = recording_of c given None p;
})

abbrev trial_asked : Codec → List Pair → Parameters → Option Job
trial_asked c given p = option_map (tried c given p) (number_at option.count given)

abbrev answer_asked : Codec → List Pair → Job
answer_asked c given =
    AnswerOffer (answering_of c given) (number_or_default option.offer_limit given)

-- the same by the name of the command; nothing where there is no such command
abbrev pub asked_named : List ℕ → Codec → List Pair → Parameters → Option Job
asked_named name c given p =
    cond (bytes_eq name option.record_name) (Some (record_asked c given p))
    (cond (bytes_eq name option.stream_name) (Some (stream_asked c given p))
    (cond (bytes_eq name option.convert_name) (convert_asked c given p)
    (cond (bytes_eq name option.list_name) (Some (list_asked c given p))
    (cond (bytes_eq name option.answer_name) (Some (answer_asked c given))
    (cond (bytes_eq name option.trial_name) (trial_asked c given p) None)))))

-- the same where the command is one of these
abbrev pub asked_of : List (List ℕ) → List ℕ → List Pair → Codec → Option Job
asked_of commands name given c = cond (list_any (bytes_eq name) commands)
    (option_and_then (asked_named name c given) (parameters_at c option.fmtp given)) None

-- what words ask for, the first being the command, where there are these commands and these rows;
-- the codec has to be given
abbrev pub asked_by : List (List ℕ) → List Row → List (List ℕ) → Option Job
asked_by commands rows [] = None
asked_by commands rows (name ∷ words) =
    option_and_then (asked_of commands name (pairs words)) (codec_of rows name words)

-- the job of the same, where its plans are valid
abbrev pub job_by : List (List ℕ) → List Row → List (List ℕ) → Option Job
job_by commands rows words = option_and_then if_valid (asked_by commands rows words)

-- the job that words ask for, if they ask for one
abbrev pub job_of : List (List ℕ) → Option Job
job_of words = job_by option.commands option.table words
