-- An offer of AMR and AMR-WB as a session description makes it, and why others are refused (RFC
-- 3264, 5; RFC 4867, 8.3). The order in which refusals are tested, F5, F6, and then F1 to F4, is
-- this project's own.
use Rattle.std.specs.Prelude.{ℕ, Bool, ◌&&◌, nat_eq, List, [], ◌∷◌, map, filter_map, Option, Some, None, Result, Ok, Err, option_and_then, option_map, codes}
use Rattle.std.specs.Option.{unwrap_or}
use Rattle.std.specs.Str.{str_eq_ignore_ascii_case}
use Rattle.amr_frame.specs.declared.codec.Codec.{Codec}
use Rattle.amr_frame.specs.declared.codec.Codec.TheVariants.{Amr, AmrWb}
use Rattle.amr_frame.specs.First.{when, first}
use Rattle.amr_frame.specs.Tables.{clock}
use Rattle.spec_media.specs.Params.{Parameters}
use Rattle.spec_media.specs.Reading.{parameters_of}
use Rattle.refusals.specs.declared.media.FmtpRefusal.{FmtpRefusal}
use Rattle.spec_offer.specs.Attributes.{Map}
use Rattle.spec_offer.specs.Lines.{lines}
use Rattle.spec_offer.specs.Sections.{Section, first_bad, format_of, map_of, maxptime_of, media_of, ptime_of, section_of}
use Rattle.refusals.specs.declared.offer.OfferRefusal.{OfferRefusal}
use Rattle.refusals.specs.declared.offer.OfferRefusal.TheVariants as why

-- the name of a codec (RFC 4867, 8.1 and 8.2)
abbrev pub codec_name : Codec → List ℕ
codec_name Amr = codes "AMR"
codec_name AmrWb = codes "AMR-WB"

-- whether a map is of this codec: it has its name, in capital or small letters, and its clock rate
abbrev pub is_of : Codec → Map → Bool
is_of codec m = str_eq_ignore_ascii_case m.name (codec_name codec) && nat_eq m.rate (clock codec)

abbrev pub codec_of : Map → Option Codec
codec_of m = first (when (is_of Amr m) Amr ∷ when (is_of AmrWb m) AmrWb ∷ [])

-- an offered payload type, and what its parameters say
pub record OfferedType : Type 0 where
  pub pt : ℕ
  pub codec : Codec
  pub channels : ℕ
  pub parameters : Parameters

-- an offer: its payload types in order, its protocol word, and the times that it asks for, in
-- milliseconds
pub record Offer : Type 0 where
  pub types : List OfferedType
  pub protocol : List ℕ
  pub ptime : Option ℕ
  pub maxptime : Option ℕ

abbrev pub with_parameters : ℕ → Codec → ℕ → Result Parameters FmtpRefusal
    → Result OfferedType OfferRefusal
with_parameters pt codec channels (Ok p) =
    Ok (record { pt = pt; codec = codec; channels = channels; parameters = p })
with_parameters pt codec channels (Err r) = Err (why.Parameters pt r)

-- the text of the parameters of a payload type, empty where it has none
abbrev pub parameter_text : Section → ℕ → List ℕ
parameter_text s pt = unwrap_or (option_map (λ f. f.text) (format_of s pt)) []

-- a payload type of a codec, where its map gives one of the two, with its parameters or why they
-- are refused
abbrev pub read_type : Section → ℕ → Option (Result OfferedType OfferRefusal)
read_type s pt = option_and_then (λ (m : Map). option_map
    (λ codec. with_parameters pt codec m.channels (parameters_of codec (parameter_text s pt)))
    (codec_of m)) (map_of s pt)

-- the payload types of the two codecs, in the order of the media line
abbrev pub types_of : Section → List (Result OfferedType OfferRefusal)
types_of s = unwrap_or (option_map (λ m. filter_map (read_type s) m.formats) (media_of s)) []

abbrev pub taken_type : Result OfferedType OfferRefusal → Option OfferedType
taken_type (Ok t) = Some t
taken_type (Err r) = None

abbrev pub refused_type : Result OfferedType OfferRefusal → Option OfferRefusal
refused_type (Ok t) = None
refused_type (Err r) = Some r

-- why a section is refused: F6, and then the first type whose parameters are refused
abbrev pub section_refusal : Section → Option OfferRefusal
section_refusal s = first (option_map why.BadMap (first_bad s) ∷ map refused_type (types_of s))

-- what a section offers
abbrev pub offered : Section → Offer
offered s = record {
  types = filter_map taken_type (types_of s);
  protocol = unwrap_or (option_map (λ m. m.protocol) (media_of s)) [];
  ptime = ptime_of s;
  maxptime = maxptime_of s;
}

abbrev pub answered : Option OfferRefusal → Offer → Result Offer OfferRefusal
answered None o = Ok o
answered (Some r) o = Err r

abbrev pub read_section : Option Section → Result Offer OfferRefusal
read_section None = Err why.NoAudio
read_section (Some s) = answered (section_refusal s) (offered s)

-- what a text offers, or why it is refused
abbrev pub offer_of : List ℕ → Result Offer OfferRefusal
offer_of text = read_section (section_of (lines text))
