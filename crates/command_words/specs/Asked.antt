-- What the words of the command line ask for, as the code has it.
use Rattle.std.specs.Prelude.{◌≡◌, ℕ, true, List, [], IfSome, None, bytes_eq, codes, unwrap_or}
use Rattle.amr_frame.specs.declared.codec.Codec.{Codec}
use Rattle.amr_mode.specs.Members.{members}
use Rattle.amr_mode.specs.declared.mode_set.ModeSet.{ModeSet}
use Rattle.command_words.specs.declared.command.Command.{Command}
use Rattle.command_words.specs.declared.command.AnswerWords.{AnswerWords}
use Rattle.command_words.specs.declared.command.Command.TheVariants.{Answer, Convert, Record, Stream, Trial}
use Rattle.command_words.specs.declared.command.Command.TheVariants.{List as Listed}
use Rattle.command_words.specs.declared.command.ConvertWords.{ConvertWords}
use Rattle.command_words.specs.declared.command.ListWords.{ListWords}
use Rattle.command_words.specs.declared.command.RecordWords.{RecordWords}
use Rattle.command_words.specs.declared.command.StreamWords.{StreamWords}
use Rattle.command_words.specs.declared.command.TrialWords.{TrialWords}
use Rattle.command_words.specs.Rows.{IsWithin}
use Rattle.media_params.specs.Fmtp.{bits_of, format_of, parameters}
use Rattle.media_params.specs.declared.fmtp.Fmtp.{Fmtp}
use Rattle.spec_jobs.specs.Jobs.{AnswerOffer, ConvertLog, Job, ListLog, RecordLog, RunTrial, StreamFile}
use Rattle.spec_jobs.specs.Plans.{most_blocks, window_of}
use Rattle.spec_listing.specs.Listing.{Listing}
use Rattle.spec_media.specs.Params.{AreParameters}
use Rattle.spec_modes.specs.ModeSets.{IsModeSet, greatest, has}
use Rattle.spec_offer.specs.Answering.{Answering}
use Rattle.spec_record.specs.Recording.{Recording}
use Rattle.spec_sending.specs.declared.plan.SendPlan.{SendPlan}
use Rattle.spec_session.specs.Session.{rules_of}
use Rattle.spec_trial.specs.Trials.{Trial as Asked}
use Rattle.spec_words.specs.Given.{is_on, number_at, number_or, number_or_default, text_at}
use Rattle.spec_words.specs.Table as option
use Rattle.spec_words.specs.Words.{Pair}

-- what is recorded by these values
abbrev pub recording_of : RecordWords → Recording
recording_of w =
    let f = record (format_of w.fmtp w.codec w.channels w.max_blocks) { strict = w.strict } in
    record { profile = f; asked = w.pt; rules = rules_of f w.window w.reach }

-- how blocks are sent by these values, in payloads of at most so many blocks
abbrev pub sending_of : ℕ → StreamWords → SendPlan
sending_of most w = record {
  profile = format_of w.fmtp w.codec w.channels most;
  blocks = w.blocks;
  length = w.length;
  repeat = w.repeat;
  skip_empty = w.skip_empty;
  cmr = w.cmr;
  pt = w.pt;
  ssrc = w.ssrc;
  seq = w.seq;
  ts = w.ts;
}

-- what an answer is given by, by these values
abbrev pub answering_of : AnswerWords → Answering
answering_of w = record {
  wanted = record {
    codec = w.codec;
    channels = w.channels;
    modes = members w.modes;
    crc = w.crc;
    sorting = w.sorting;
    interleaving = w.interleaving;
  };
  port = w.port;
}

-- what is listed by these values
abbrev pub listing_of : ListWords → Listing
listing_of w = record {
  profile = record (format_of w.fmtp w.codec w.channels w.max_blocks) { strict = w.strict };
  asked = w.pt;
  desk = record {
    codec = w.codec;
    modes = members w.modes;
    neighbor = w.fmtp.neighbor;
    period = w.fmtp.period;
    start = w.start;
  };
  bits = w.show_bits;
}

-- what is tried by these values
abbrev pub trial_of : TrialWords → Asked
trial_of w = record {
  count = w.count;
  seed = w.seed;
  sending = sending_of w.received.max_blocks w.sent;
  recording = recording_of w.received;
}

-- the job that a command stands for
abbrev pub asked_in : Command → Job
asked_in (Record w) = RecordLog (recording_of w) w.limit
asked_in (Stream w) = StreamFile (sending_of 64 w) w.limit
asked_in (Convert w) =
    ConvertLog (recording_of w.received) (sending_of 64 w.sent) w.received.limit
asked_in (Answer w) = AnswerOffer (answering_of w) w.limit
asked_in (Listed w) = ListLog (listing_of w) w.limit
asked_in (Trial w) = RunTrial (trial_of w)

-- the values that options give `record` and `stream`, beside these media parameters
abbrev pub record_words : Codec → List Pair → Fmtp → RecordWords
record_words c given f = record {
  codec = c;
  channels = number_or_default option.channels given;
  fmtp = f;
  pt = number_at option.pt given;
  limit = number_or_default option.limit given;
  window = window_of given (parameters f);
  reach = number_or_default option.reach given;
  max_blocks = most_blocks given (parameters f);
  strict = is_on option.strict given;
}

abbrev pub stream_words : Codec → List Pair → Fmtp → StreamWords
stream_words c given f = record {
  codec = c;
  channels = number_or_default option.channels given;
  fmtp = f;
  limit = number_or_default option.limit given;
  blocks = number_or_default option.blocks given;
  length = number_or_default option.group given;
  repeat = number_or_default option.repeat given;
  skip_empty = is_on option.skip given;
  cmr = number_or_default option.cmr given;
  pt = number_or 96 option.pt given;
  ssrc = number_or_default option.ssrc given;
  seq = number_or_default option.seq given;
  ts = number_or_default option.ts given;
}

-- those that options give `convert`, beside the media parameters of what is received, and those of
-- what is sent
abbrev pub convert_words : Codec → List Pair → Fmtp → Fmtp → ConvertWords
convert_words c given f to = record {
  received = record_words c given f;
  sent = record (stream_words c given to) { pt = number_or_default option.to_pt given };
}

-- those that options give `trial` with so many blocks, beside the media parameters of what is sent
-- and received: the packets are of type 96, and any type is read
abbrev pub trial_words : Codec → List Pair → Fmtp → ℕ → TrialWords
trial_words c given f count = record {
  count = count;
  seed = number_or_default option.seed given;
  sent = record (stream_words c given f) { pt = 96 };
  received = record (record_words c given f) { pt = None };
}

-- those that options give `answer`, beside these modes
abbrev pub answer_words : Codec → List Pair → ModeSet → AnswerWords
answer_words c given modes = record {
  codec = c;
  channels = number_or_default option.channels given;
  modes = modes;
  crc = is_on option.crc given;
  sorting = is_on option.sorting given;
  interleaving = number_or_default option.interleaving given;
  port = number_or_default option.port given;
  limit = number_or_default option.offer_limit given;
}

-- those that options give `list`, beside these media parameters
abbrev pub list_words : Codec → List Pair → Fmtp → ListWords
list_words c given f = let modes : ModeSet = record { bits = bits_of c f.modes } in record {
  codec = c;
  channels = number_or_default option.channels given;
  fmtp = f;
  modes = modes;
  start = number_or (greatest (members modes)) option.start given;
  pt = number_at option.pt given;
  max_blocks = number_or 64 option.max_blocks given;
  strict = is_on option.strict given;
  show_bits = bytes_eq (unwrap_or (text_at option.show given) []) (codes "bits");
  limit = number_or_default option.limit given;
}

-- each value is in the range of its option
abbrev pub AreWithin : RecordWords → Type 0
AreWithin w =
    IsWithin option.channels w.channels × IfSome w.pt (IsWithin option.pt)
    × IsWithin option.limit w.limit × IsWithin option.window w.window
    × IsWithin option.reach w.reach × IsWithin option.max_blocks w.max_blocks

abbrev pub AreSendable : StreamWords → Type 0
AreSendable w =
    IsWithin option.channels w.channels × IsWithin option.limit w.limit
    × IsWithin option.blocks w.blocks × IsWithin option.group w.length
    × IsWithin option.repeat w.repeat × IsWithin option.cmr w.cmr × IsWithin option.pt w.pt
    × IsWithin option.ssrc w.ssrc × IsWithin option.seq w.seq × IsWithin option.ts w.ts

abbrev pub AreConvertible : ConvertWords → Type 0
AreConvertible w =
    AreWithin w.received × AreSendable w.sent
    × (w.sent.codec ≡ w.received.codec) × (w.sent.channels ≡ w.received.channels)

abbrev pub AreWanted : AnswerWords → Type 0
AreWanted w =
    IsWithin option.channels w.channels × IsModeSet w.codec (members w.modes)
    × IsWithin option.interleaving w.interleaving × IsWithin option.port w.port
    × IsWithin option.offer_limit w.limit

abbrev pub AreListed : ListWords → Type 0
AreListed w =
    IsWithin option.channels w.channels × AreParameters w.codec (parameters w.fmtp)
    × (has (members w.modes) w.start ≡ true) × IfSome w.pt (IsWithin option.pt)
    × IsWithin option.max_blocks w.max_blocks × IsWithin option.limit w.limit

abbrev pub AreTried : TrialWords → Type 0
AreTried w =
    IsWithin option.count w.count × IsWithin option.seed w.seed
    × AreWithin w.received × AreSendable w.sent × (w.received.pt ≡ None)

abbrev pub HasValues : Command → Type 0
HasValues (Record w) = AreWithin w
HasValues (Stream w) = AreSendable w
HasValues (Convert w) = AreConvertible w
HasValues (Answer w) = AreWanted w
HasValues (Listed w) = AreListed w
HasValues (Trial w) = AreTried w
