-- What the options of a command ask of a format, a receiver, a sender, a desk and an answer: this
-- project's own. Defaults are taken from what is given, whatever the order of the words.
use Rattle.std.specs.Prelude.{ℕ, max, min, Bool, false, ◌&&◌, nat_le, List, Option, is_none, unwrap_or, option_map}
use Rattle.amr_frame.specs.declared.codec.Codec.{Codec}
use Rattle.amr_frame.specs.declared.profile.Profile.{Profile}
use Rattle.amr_frame.specs.Profiles.{group_bound, profile_fault}
use Rattle.spec_media.specs.Params.{Parameters}
use Rattle.spec_media.specs.Reading.{modes_of}
use Rattle.spec_modes.specs.Desk.{DeskPlan}
use Rattle.spec_modes.specs.ModeSets.{bits_for, greatest}
use Rattle.spec_offer.specs.Answering.{Answering}
use Rattle.spec_record.specs.Recording.{Recording}
use Rattle.spec_sending.specs.declared.plan.SendPlan.{SendPlan}
use Rattle.spec_session.specs.Session.{rules_of}
use Rattle.spec_words.specs.Given.{is_on, modes_or_all, number_or, number_or_default, text_at}
use Rattle.spec_words.specs.Table as option
use Rattle.spec_words.specs.Words.{Pair}

-- the format of media parameters, with so many blocks in a payload; it isn't strict
abbrev pub format : Codec → List Pair → ℕ → Parameters → Profile
format c given most p = record {
  codec = c;
  channels = number_or_default option.channels given;
  octet_aligned = p.octet_aligned;
  crc = p.crc;
  sorting = p.sorting;
  interleaving = p.interleaving;
  max_blocks = most;
  strict = false;
  modes = bits_for (modes_or_all c p.modes);
}

-- that of what is received: strict where the option says so
abbrev pub received_format : Codec → List Pair → ℕ → Parameters → Profile
received_format c given most p =
    record (format c given most p) { strict = is_on option.strict given }

-- the blocks of a group of media parameters, 0 where they have no groups
abbrev pub group_of : Parameters → ℕ
group_of p = unwrap_or (group_bound p.interleaving) 0

-- the window: by default the greater of 256 and a group; and the most blocks in a payload: by
-- default the lesser of 64 and the window
abbrev pub window_of : List Pair → Parameters → ℕ
window_of given p = number_or (max 256 (group_of p)) option.window given

abbrev pub most_blocks : List Pair → Parameters → ℕ
most_blocks given p = number_or (min 64 (window_of given p)) option.max_blocks given

-- what is recorded by media parameters, of this payload type or any
abbrev pub recording_of : Codec → List Pair → Option ℕ → Parameters → Recording
recording_of c given asked p = let f = received_format c given (most_blocks given p) p in record {
  profile = f;
  asked = asked;
  rules = rules_of f (window_of given p) (number_or_default option.reach given);
}

-- whether the format is valid (B1 to B4) and the window holds a payload's blocks and a group (B5);
-- the reach and the greatest window are those of the table (B5, B6)
abbrev pub is_receivable : Recording → Bool
is_receivable r =
    is_none (profile_fault r.profile) && nat_le r.profile.max_blocks r.rules.window
    && nat_le (unwrap_or (group_bound r.profile.interleaving) 0) r.rules.window

-- how blocks are sent by media parameters: as packets of this payload type
abbrev pub sending_of : Codec → List Pair → ℕ → ℕ → Parameters → SendPlan
sending_of c given pt most p = record {
  profile = format c given most p;
  blocks = number_or_default option.blocks given;
  length = number_or_default option.group given;
  repeat = number_or_default option.repeat given;
  skip_empty = is_on option.skip given;
  cmr = number_or_default option.cmr given;
  pt = pt;
  ssrc = number_or_default option.ssrc given;
  seq = number_or_default option.seq given;
  ts = number_or_default option.ts given;
}

-- the desk of a listing: of the modes of media parameters; it starts at the greatest of them by
-- default
abbrev pub desk_of : Codec → List Pair → Parameters → DeskPlan
desk_of c given p = let modes = modes_or_all c p.modes in record {
  codec = c;
  modes = modes;
  neighbor = p.neighbor;
  period = p.period;
  start = number_or (greatest modes) option.start given;
}

-- what an answer is given by: all modes where none are wanted alone
abbrev pub answering_of : Codec → List Pair → Answering
answering_of c given = record {
  wanted = record {
    codec = c;
    channels = number_or_default option.channels given;
    modes = modes_or_all c (option_map (modes_of c) (text_at option.modes given));
    crc = is_on option.crc given;
    sorting = is_on option.sorting given;
    interleaving = number_or_default option.interleaving given;
  };
  port = number_or_default option.port given;
}
