-- The table of the options of the command line: this project's own.
use Rattle.std.specs.Prelude.{ℕ, List, [], ◌∷◌, filter, Option, Some, None, bytes_eq, codes}
use Rattle.std.specs.List.{list_any}

-- the values that an option may have: the names of the codecs; the numbers from the least to the
-- greatest; the texts of media parameters; one of the modes that those of `--fmtp` leave; the lists
-- of modes; what a listing shows
pub data Values : Type 0 where
  Codecs : Values
  Numbers : (least greatest : ℕ) → Values
  Parameters : Values
  OneMode : Values
  ModeLists : Values
  Shows : Values

-- a row: an option, its values, its default if that depends on no other, the commands that take it
pub record Row : Type 0 where
  pub option : List ℕ
  pub values : Values
  pub default : Option ℕ
  pub commands : List (List ℕ)

-- a row as these commands have it
abbrev pub only : List (List ℕ) → Row → Row
only commands r = record r {
  commands = filter (λ name. list_any (bytes_eq name) commands) r.commands;
}

abbrev row : List ℕ → Values → Option ℕ → List (List ℕ) → Row
row option values default commands =
    record { option = option; values = values; default = default; commands = commands }

-- the commands
abbrev pub record_name : List ℕ
record_name = codes "record"

abbrev pub list_name : List ℕ
list_name = codes "list"

abbrev pub answer_name : List ℕ
answer_name = codes "answer"

-- those that send packets from a file or a log, and the one that sends what it draws
abbrev pub stream_name : List ℕ
stream_name = codes "stream"

abbrev pub convert_name : List ℕ
convert_name = codes "convert"

abbrev numbering : List (List ℕ)
numbering = stream_name ∷ convert_name ∷ []

abbrev pub trial_name : List ℕ
trial_name = codes "trial"

-- those that send packets, those that receive packets, and those with a format of payloads
abbrev sending : List (List ℕ)
sending = stream_name ∷ convert_name ∷ trial_name ∷ []

abbrev receiving : List (List ℕ)
receiving = record_name ∷ convert_name ∷ trial_name ∷ []

abbrev with_a_format : List (List ℕ)
with_a_format = record_name ∷ stream_name ∷ convert_name ∷ list_name ∷ trial_name ∷ []

-- a row of a number in a range, with its default: of those that send packets, of what packets of a
-- file or a log carry, from 0 on, and of what is wanted of an offer, from 0 to the default
abbrev of_sending : List ℕ → ℕ → ℕ → ℕ → Row
of_sending option least greatest default =
    row option (Numbers least greatest) (Some default) sending

abbrev of_packets : List ℕ → ℕ → ℕ → Row
of_packets option greatest default = row option (Numbers 0 greatest) (Some default) numbering

abbrev up_to : List ℕ → ℕ → Row
up_to option greatest = row option (Numbers 0 greatest) (Some greatest) (answer_name ∷ [])

-- the codec, which has to be given; the frames of one block; the media parameters of what is read
-- or sent, and those of what is sent again
abbrev pub codec : Row
codec = row (codes "--codec") Codecs None (answer_name ∷ with_a_format)

abbrev pub channels : Row
channels = row (codes "--channels") (Numbers 1 6) (Some 1) (answer_name ∷ with_a_format)

abbrev pub fmtp : Row
fmtp = row (codes "--fmtp") Parameters None with_a_format

abbrev pub to_fmtp : Row
to_fmtp = row (codes "--to-fmtp") Parameters None (convert_name ∷ [])

-- the payload type that is read, or that is sent; that of what is sent again
abbrev pub pt : Row
pt = row (codes "--pt") (Numbers 0 127) None
    (record_name ∷ convert_name ∷ list_name ∷ stream_name ∷ [])

abbrev pub to_pt : Row
to_pt = row (codes "--to-pt") (Numbers 0 127) (Some 96) (convert_name ∷ [])

-- the window and the reach of a receiver, in blocks, and the most blocks in a payload
abbrev pub window : Row
window = row (codes "--window") (Numbers 1 4096) None receiving

abbrev pub reach : Row
reach = row (codes "--reach") (Numbers 1 45000) (Some 45000) receiving

abbrev pub max_blocks : Row
max_blocks = row (codes "--max-blocks") (Numbers 1 64) None
    (record_name ∷ convert_name ∷ list_name ∷ [])

-- whether the format of what is received is strict
abbrev pub strict : Row
strict = row (codes "--strict") (Numbers 0 1) (Some 0) (record_name ∷ convert_name ∷ list_name ∷ [])

-- the most octets that are taken: up to 2^40, and up to 65,536 of an offer
abbrev pub limit : Row
limit = row (codes "--limit") (Numbers 1 1099511627776) (Some 1099511627776)
    (record_name ∷ stream_name ∷ convert_name ∷ list_name ∷ [])

abbrev pub offer_limit : Row
offer_limit = row (codes "--limit") (Numbers 1 65536) (Some 65536) (answer_name ∷ [])

-- how packets are sent: the new blocks of one, the packets of a group, the blocks sent again,
-- whether packets of NO_DATA are left out
abbrev pub blocks : Row
blocks = of_sending (codes "--blocks") 1 64 1

abbrev pub group : Row
group = of_sending (codes "--length") 1 16 1

abbrev pub repeat : Row
repeat = of_sending (codes "--repeat") 0 63 0

abbrev pub skip : Row
skip = of_sending (codes "--skip") 0 1 0

-- what packets carry: the codec mode request, the source, the first timestamp, the first sequence
-- number
abbrev pub cmr : Row
cmr = of_packets (codes "--cmr") 15 15

abbrev pub ssrc : Row
ssrc = of_packets (codes "--ssrc") 4294967295 0

abbrev pub ts : Row
ts = of_packets (codes "--ts") 4294967295 0

abbrev pub seq : Row
seq = of_packets (codes "--seq") 65535 0

-- what a listing shows, and the mode that its desk starts at
abbrev pub show : Row
show = row (codes "--show") Shows None (list_name ∷ [])

abbrev pub start : Row
start = row (codes "--start") OneMode None (list_name ∷ [])

-- what is wanted of an offer, and the port of the answer
abbrev pub modes : Row
modes = row (codes "--modes") ModeLists None (answer_name ∷ [])

abbrev pub crc : Row
crc = up_to (codes "--crc") 1

abbrev pub sorting : Row
sorting = up_to (codes "--sorting") 1

abbrev pub interleaving : Row
interleaving = up_to (codes "--interleaving") 65535

abbrev pub port : Row
port = row (codes "--port") (Numbers 1 65535) (Some 9) (answer_name ∷ [])

-- the blocks of a trial, which have to be given, and the number that they are drawn from
abbrev pub count : Row
count = row (codes "--count") (Numbers 0 100000) None (trial_name ∷ [])

abbrev pub seed : Row
seed = row (codes "--seed") (Numbers 0 4294967295) (Some 0) (trial_name ∷ [])

-- all rows
abbrev pub table : List Row
table =
    codec ∷ channels ∷ fmtp ∷ to_fmtp ∷ pt ∷ to_pt ∷ window ∷ reach ∷ max_blocks
    ∷ strict ∷ limit ∷ offer_limit ∷ blocks ∷ group ∷ repeat ∷ skip ∷ cmr ∷ ssrc ∷ ts ∷ seq
    ∷ show ∷ start ∷ modes ∷ crc ∷ sorting ∷ interleaving ∷ port ∷ count ∷ seed ∷ []

-- all commands
abbrev pub commands : List (List ℕ)
commands = answer_name ∷ with_a_format
