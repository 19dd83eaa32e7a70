-- The answer to an offer (RFC 3264, 6; RFC 4867, 8.3): the first offered payload type that suits
-- what is wanted. What suits, and in which order the reasons against a type are tested, are this
-- project's own.
use Rattle.std.specs.Prelude.{ℕ, Bool, true, false, not, ◌&&◌, nat_eq, nat_lt, List, [], ◌∷◌, ◌++◌, filter_map, find, flat_map, take_while, cond, Option, Some, None, is_none, option_map, bytes_eq, codes, decimal}
use Rattle.std.specs.Option.{unwrap_or}
use Rattle.amr_frame.specs.declared.codec.Codec.{Codec}
use Rattle.amr_frame.specs.declared.codec.Codec.TheVariants.{Amr, AmrWb}
use Rattle.amr_frame.specs.First.{when, first}
use Rattle.amr_frame.specs.Tables.{clock}
use Rattle.spec_media.specs.Params.{Parameters}
use Rattle.spec_media.specs.Pieces.{is_empty}
use Rattle.spec_media.specs.Printing.{printed}
use Rattle.spec_modes.specs.ModeSets.{all_modes, within}
use Rattle.spec_offer.specs.Offers.{Offer, OfferedType, codec_name}
use Rattle.refusals.specs.declared.answer.RefusedType.{RefusedType}
use Rattle.refusals.specs.declared.answer.Why.{Why}
use Rattle.refusals.specs.declared.answer.Why.TheVariants as reason

-- what is wanted: a codec and a number of channels, modes, whether CRCs and sorting may be used,
-- and the most blocks in an interleaving group, 0 where there are to be none
pub record Wanted : Type 0 where
  pub codec : Codec
  pub channels : ℕ
  pub modes : List ℕ
  pub crc : Bool
  pub sorting : Bool
  pub interleaving : ℕ

abbrev pub same_codec : Codec → Codec → Bool
same_codec Amr Amr = true
same_codec Amr AmrWb = false
same_codec AmrWb Amr = false
same_codec AmrWb AmrWb = true

-- why an offered type doesn't suit, the first reason that holds; an offer without groups or
-- without a mode set isn't refused for them
abbrev pub unsuited : Wanted → OfferedType → Option Why
unsuited w t = first (
    when (not (same_codec t.codec w.codec)) reason.Codec
    ∷ when (not (nat_eq t.channels w.channels)) reason.Channels
    ∷ when (t.parameters.crc && not w.crc) reason.Crc
    ∷ when (t.parameters.sorting && not w.sorting) reason.Sorting
    ∷ when (nat_lt w.interleaving (unwrap_or t.parameters.interleaving 0)) reason.Interleaving
    ∷ when (not (within (unwrap_or t.parameters.modes []) w.modes)) reason.Modes ∷ [])

abbrev pub suits : Wanted → OfferedType → Bool
suits w t = is_none (unsuited w t)

-- the modes that are answered: those offered, or, where none are and not all are wanted, those
-- wanted
abbrev pub answered_modes : Wanted → Option (List ℕ) → Option (List ℕ)
answered_modes w (Some modes) = Some modes
answered_modes w None = cond (bytes_eq w.modes (all_modes w.codec)) None (Some w.modes)

-- the payload type that is answered, and its parameters
pub record Chosen : Type 0 where
  pub pt : ℕ
  pub parameters : Parameters

abbrev pub chosen_of : Wanted → OfferedType → Chosen
chosen_of w t = record {
  pt = t.pt;
  parameters = record t.parameters { modes = answered_modes w t.parameters.modes };
}

abbrev pub refused_of : Wanted → OfferedType → Option RefusedType
refused_of w t = option_map (λ why. record { pt = t.pt; why = why }) (unsuited w t)

-- the answer: the first type that suits, and those before it with the reasons against them
pub record Answer : Type 0 where
  pub chosen : Option Chosen
  pub refused : List RefusedType

abbrev pub answer_to : Offer → Wanted → Answer
answer_to o w = record {
  chosen = option_map (chosen_of w) (find (suits w) o.types);
  refused = filter_map (refused_of w) (take_while (λ t. not (suits w t)) o.types);
}

-- the lines of an answer's text, without their ends (RFC 4566, 5.14 and 6): the media line, the
-- map, the parameters where there are any, and the times that were asked for
abbrev pub answer_lines : Offer → Wanted → ℕ → Chosen → List (List ℕ)
answer_lines o w port c =
    let parameters = printed c.parameters in
    (codes "m=audio " ++ decimal port ++ codes " " ++ o.protocol ++ codes " " ++ decimal c.pt)
    ∷ (codes "a=rtpmap:" ++ decimal c.pt ++ codes " " ++ codec_name w.codec
    ++ codes "/" ++ decimal (clock w.codec) ++ codes "/" ++ decimal w.channels)
    ∷ cond (is_empty parameters) []
    ((codes "a=fmtp:" ++ decimal c.pt ++ codes " " ++ parameters) ∷ [])
    ++ time_line (codes "a=ptime:") o.ptime ++ time_line (codes "a=maxptime:") o.maxptime
  where
    time_line : List ℕ → Option ℕ → List (List ℕ)
    time_line front None = []
    time_line front (Some n) = (front ++ decimal n) ∷ []

-- the text of an answer: each of its lines ends with CR LF
abbrev pub answer_text : Offer → Wanted → ℕ → Chosen → List ℕ
answer_text o w port c = flat_map (λ line. line ++ 13 ∷ 10 ∷ []) (answer_lines o w port c)
