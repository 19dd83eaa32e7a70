-- A payload type as it is read.
use Rattle.std.proofs.Common.{◌≡◌, ◌<◌, ℕ, List, [], Option, None, Some, Result, refl, sym, ◌∙◌, ap}
use Rattle.std.specs.Option.{option_and_then, option_map, option_map_or, unwrap_or}
use Rattle.amr_frame.specs.declared.codec.Codec.{Codec}
use Rattle.refusals.specs.declared.media.FmtpRefusal.{FmtpRefusal}
use Rattle.spec_media.specs.Params.{Parameters}
use Rattle.spec_media.specs.Reading.{parameters_of}
use Rattle.spec_offer.specs.Attributes.{Format, Map}
use Rattle.spec_offer.specs.Offers.{codec_of, parameter_text, read_type, with_parameters}
use Rattle.spec_offer.specs.Sections.{Section, format_of, map_of}
use Rattle.sdp_lines.specs.Attributes.{map_said}
use Rattle.sdp_lines.specs.Told.{Says, format_at, map_at}
use Rattle.sdp_lines.specs.declared.attributes.Map.{Map as CodeMap}
use Rattle.sdp_lines.specs.declared.told.Attributes.{Attributes}

-- a section has this map and this text of a payload type
pub record IsOffered (s : Section) (pt : ℕ) (m : Map) (codec : Codec) (text : List ℕ) : Type 0 where
  pub map : map_of s pt ≡ Some m
  pub codec_is : codec_of m ≡ Some codec
  pub text_is : parameter_text s pt ≡ text

pub text_of : (o : Option Format) → unwrap_or (option_map (λ f. f.text) o) [] ≡ option_map_or (λ f. f.text) o []
text_of None = refl
text_of (Some f) = refl

pub typed : (s : Section) (pt : ℕ) (m : Map) (codec : Codec) (text : List ℕ) (r : Result Parameters FmtpRefusal)
    → IsOffered s pt m codec text → r ≡ parameters_of codec text
    → Some (with_parameters pt codec m.channels r) ≡ read_type s pt
typed s pt m codec text r is e = sym (
    ap (option_and_then (λ (n : Map). option_map
    (λ c. with_parameters pt c n.channels (parameters_of c (parameter_text s pt))) (codec_of n))) is.map
    ∙ ap (option_map (λ c. with_parameters pt c m.channels (parameters_of c (parameter_text s pt)))) is.codec_is
    ∙ ap (λ t. Some (with_parameters pt codec m.channels (parameters_of codec t))) is.text_is
    ∙ ap (λ x. Some (with_parameters pt codec m.channels x)) (sym e))

-- what attributes say of it
pub offered : (a : Attributes) (s : Section) (pt : ℕ) (found : Option CodeMap) (m : CodeMap) (named : Option Codec)
    (codec : Codec) (text : List ℕ) → pt < 128 → Says a s → option_map map_said found ≡ map_at a.maps pt
    → found ≡ Some m → named ≡ codec_of (map_said m) → named ≡ Some codec
    → text ≡ option_map_or (λ f. f.text) (format_at a.formats pt) [] → IsOffered s pt (map_said m) codec text
offered a s pt found m named codec text within says map is of_map named_is text_is = record {
  map = sym (says.maps pt within) ∙ sym map ∙ ap (option_map map_said) is;
  codec_is = sym of_map ∙ named_is;
  text_is = text_of (format_of s pt)
      ∙ ap (λ o. option_map_or (λ f. f.text) o []) (sym (says.formats pt within)) ∙ sym text_is;
}
