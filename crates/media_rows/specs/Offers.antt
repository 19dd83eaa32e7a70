-- The words of the worked examples of offers and answers.
use Rattle.std.specs.Prelude.{ℕ, true, List, [], ◌∷◌, ◌++◌, map, None, Some, codes}
use Rattle.amr_frame.specs.declared.codec.Codec.TheVariants.{Amr, AmrWb}
use Rattle.media_rows.specs.Words.{aligned, plain}
use Rattle.spec_media.specs.Params.{Parameters}
use Rattle.spec_modes.specs.ModeSets.{all_modes}
use Rattle.run_report.specs.Lines.{count_lines}
use Rattle.run_report.specs.declared.report.CountLines.TheVariants as lines
use Rattle.spec_offer.specs.Answering.{Answering, answer_counts, answer_out}
use Rattle.spec_offer.specs.Answers.{Wanted}
use Rattle.spec_offer.specs.Attributes.{Map, Media}
use Rattle.spec_offer.specs.Lines.{lines}
use Rattle.spec_offer.specs.Offers.{Offer, OfferedType}

-- the lines of a text, without their numbers
abbrev pub texts : List ℕ → List (List ℕ)
texts text = map (λ l. l.text) (lines text)

abbrev pub media : List ℕ → List ℕ → Media
media protocol formats = record { protocol = protocol; formats = formats }

abbrev pub map_to : ℕ → List ℕ → ℕ → ℕ → Map
map_to pt name rate channels = record { pt = pt; name = name; rate = rate; channels = channels }

-- the worked offer, with its ninth line, and what stands in the place of its tenth
abbrev pub offer_with : List ℕ → List ℕ → List ℕ
offer_with ninth tenth =
    codes "v=0\no=- 1 1 IN IP4 192.0.2.1\ns=-\nc=IN IP4 192.0.2.1\nt=0 0\n"
    ++ codes "m=audio 49170 RTP/AVP 97 98 101\n"
    ++ codes "a=rtpmap:97 AMR-WB/16000\na=fmtp:97 mode-set=0,1,2; max-red=0\n"
    ++ ninth ++ codes "\n" ++ tenth
    ++ codes "a=rtpmap:101 telephone-event/8000\na=fmtp:101 0-15\na=ptime:20\na=maxptime:240\n"

-- the same with the line of AMR as its ninth
abbrev pub amr_with : List ℕ → List ℕ
amr_with tenth = offer_with (codes "a=rtpmap:98 AMR/8000") tenth

abbrev pub worked_offer : List ℕ
worked_offer = amr_with (codes "a=fmtp:98 mode-set=0,2,5,7; octet-align=1\n")

-- a type of each codec with these parameters
abbrev pub plain_type : Parameters → OfferedType
plain_type p = record { pt = 98; codec = Amr; channels = 1; parameters = p }

abbrev pub wide_type : Parameters → OfferedType
wide_type p = record { pt = 97; codec = AmrWb; channels = 1; parameters = p }

-- what the worked offer offers, with these parameters of its second type
abbrev pub typed : Parameters → Offer
typed p = record {
  types = wide_type (record plain { modes = Some (0 ∷ 1 ∷ 2 ∷ []); max_red = Some 0 })
      ∷ plain_type p ∷ [];
  protocol = codes "RTP/AVP";
  ptime = Some 20;
  maxptime = Some 240;
}

abbrev pub worked : Offer
worked = typed (record aligned { modes = Some (0 ∷ 2 ∷ 5 ∷ 7 ∷ []) })

-- an offer of no type of ours
abbrev pub no_types : Offer
no_types = record { types = []; protocol = codes "x"; ptime = None; maxptime = None }

-- AMR of one channel, in all modes and with all that the formats can do; and the same in some modes
abbrev pub wanted : Wanted
wanted = record {
  codec = Amr;
  channels = 1;
  modes = all_modes Amr;
  crc = true;
  sorting = true;
  interleaving = 65535;
}

abbrev pub modes_wanted : List ℕ → Wanted
modes_wanted modes = record wanted { modes = modes }

abbrev pub asks : Wanted → Answering
asks w = record { wanted = w; port = 9 }

-- the answer to a text, and the notes, under the greatest limit
abbrev pub answer : Wanted → List ℕ → List ℕ
answer w text = answer_out (asks w) 65536 text

abbrev pub noted : Wanted → List ℕ → List ℕ
noted w text = count_lines lines.Answering (answer_counts (asks w) 65536 text)

-- an answer that takes type 98, with this line of its parameters
abbrev pub answer_with : List ℕ → List ℕ
answer_with parameters =
    codes "m=audio 9 RTP/AVP 98\r\na=rtpmap:98 AMR/8000/1\r\n"
    ++ parameters ++ codes "a=ptime:20\r\na=maxptime:240\r\n"
