-- The pieces that the text of an answer is written in: the media line and the map, with the
-- protocol word between, the parameters where there are any, and the times.
use Rattle.std.specs.Prelude.{ℕ, cond, List, [], ◌∷◌, ◌++◌, Option, Some, None, codes, decimal}
use Rattle.amr_frame.specs.Tables.{clock}
use Rattle.spec_media.specs.Pieces.{is_empty}
use Rattle.spec_media.specs.Printing.{printed}
use Rattle.spec_offer.specs.Answers.{Chosen, Wanted}
use Rattle.spec_offer.specs.Offers.{Offer, codec_name}

-- CR LF, the end of a line (RFC 4566, 5)
abbrev pub line_end : List ℕ
line_end = 13 ∷ 10 ∷ []

-- the media line up to its protocol word
abbrev pub front_text : ℕ → List ℕ
front_text port = codes "m=audio " ++ decimal port ++ codes " "

-- what stands behind the protocol word, and the map
abbrev pub map_text : Wanted → ℕ → List ℕ
map_text w pt =
    codes " " ++ decimal pt ++ line_end
    ++ codes "a=rtpmap:" ++ decimal pt ++ codes " " ++ codec_name w.codec
    ++ codes "/" ++ decimal (clock w.codec) ++ codes "/" ++ decimal w.channels ++ line_end

abbrev pub format_text : ℕ → List ℕ
format_text pt = codes "a=fmtp:" ++ decimal pt ++ codes " "

-- the parameters, where there are any
abbrev pub parameters_text : Chosen → List ℕ
parameters_text c = cond (is_empty (printed c.parameters)) []
    (format_text c.pt ++ printed c.parameters ++ line_end)

-- a time, where it was asked for
abbrev pub time_text : List ℕ → Option ℕ → List ℕ
time_text front None = []
time_text front (Some n) = front ++ decimal n ++ line_end

abbrev pub times_text : Offer → List ℕ
times_text o = time_text (codes "a=ptime:") o.ptime ++ time_text (codes "a=maxptime:") o.maxptime
