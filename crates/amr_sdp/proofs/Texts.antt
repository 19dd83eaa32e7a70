-- The pieces of an answer's text, one behind another.
use Rattle.std.proofs.Common.{◌≡◌, ℕ, Bool, true, false, cond, List, [], ◌∷◌, ◌++◌, flat_map, refl, ap, ◌∙◌, sym, append-nil, append_assoc, Option, Some, None, codes, decimal}
use Rattle.std.proofs.lemmas.List.Concat.{flat_map-append}
use Rattle.amr_frame.specs.Tables.{clock}
use Rattle.spec_media.specs.Pieces.{is_empty}
use Rattle.spec_media.specs.Printing.{printed}
use Rattle.spec_offer.specs.Answers.{Chosen, Wanted, answer_text}
use Rattle.spec_offer.specs.Offers.{Offer, OfferedType, codec_name}
use Rattle.amr_sdp.specs.Texts.{format_text, front_text, line_end, map_text, parameters_text, time_text, times_text}

-- a line with its end
abbrev ended : List ℕ → List ℕ
ended line = line ++ 13 ∷ 10 ∷ []

-- one line with its end, and no further
alone : (a b c d e : List ℕ) → ((a ++ b ++ c ++ d) ++ e) ++ [] ≡ (a ++ b ++ c) ++ d ++ e
alone a b c d e = simp (append_assoc, append-nil)

-- two lines, cut behind the fourth part of the first
cut_lines : (m d s p t e r n l k c rest : List ℕ)
    → ((m ++ d ++ s ++ p ++ s ++ t) ++ e) ++ (((r ++ t ++ s ++ n ++ l ++ k ++ l ++ c) ++ e) ++ rest)
    ≡ ((m ++ d ++ s) ++ p ++ (s ++ t ++ e ++ r ++ t ++ s ++ n ++ l ++ k ++ l ++ c ++ e)) ++ rest
cut_lines m d s p t e r n l k c rest = simp append_assoc

-- the line of parameters, where there are any
given : (pt : ℕ) (text : List ℕ) (none : Bool)
    → flat_map ended (cond none [] ((codes "a=fmtp:" ++ decimal pt ++ codes " " ++ text) ∷ []))
    ≡ cond none [] (format_text pt ++ text ++ line_end)
given pt text true = refl
given pt text false = alone (codes "a=fmtp:") (decimal pt) (codes " ") text line_end

-- the media line and the map, and what stands behind them
fronts : (port pt : ℕ) (w : Wanted) (protocol rest : List ℕ)
    → ended (codes "m=audio " ++ decimal port ++ codes " " ++ protocol ++ codes " " ++ decimal pt)
    ++ (ended (codes "a=rtpmap:" ++ decimal pt ++ codes " " ++ codec_name w.codec ++ codes "/" ++ decimal
    (clock w.codec) ++ codes "/" ++ decimal w.channels)
    ++ rest) ≡ (front_text port ++ protocol ++ map_text w pt) ++ rest
fronts port pt w protocol rest = cut_lines (codes "m=audio ") (decimal port) (codes " ") protocol
    (decimal pt) line_end
    (codes "a=rtpmap:") (codec_name w.codec) (codes "/") (decimal (clock w.codec)) (decimal w.channels) rest

-- the lines of three lists, in pieces
three : (xs ys zs : List (List ℕ)) (a b c : List ℕ) → flat_map ended xs ≡ a → flat_map ended ys ≡ b
    → flat_map ended zs ≡ c
    → flat_map ended (xs ++ ys ++ zs) ≡ a ++ (b ++ c)
three xs ys zs a b c first second third = flat_map-append ended (xs ++ ys) zs
    ∙ ap (λ t. t ++ flat_map ended zs) (flat_map-append ended xs ys)
    ∙ (λ i. (first i ++ second i) ++ third i)
    ∙ append_assoc a b c

-- the line of a time
a_time : (front : List ℕ) (n : ℕ) → flat_map ended ((front ++ decimal n) ∷ []) ≡ time_text front (Some n)
a_time front n = append-nil (ended (front ++ decimal n))

module _ (types : List OfferedType) (protocol : List ℕ) (w : Wanted) (port : ℕ) (c : Chosen) where
  abbrev offer : Option ℕ → Option ℕ → Offer
  offer ptime maxptime = record { types = types; protocol = protocol; ptime = ptime; maxptime = maxptime }

  abbrev in_pieces : Offer → List ℕ
  in_pieces o = (front_text port ++ o.protocol ++ map_text w c.pt) ++ (parameters_text c ++ times_text o)

  abbrev given_lines : List (List ℕ)
  given_lines = cond (is_empty (printed c.parameters)) []
      ((codes "a=fmtp:" ++ decimal c.pt ++ codes " " ++ printed c.parameters) ∷ [])

  with_times : (ys zs : List (List ℕ)) (b d : List ℕ) → flat_map ended ys ≡ b → flat_map ended zs ≡ d
      → ended (codes "m=audio " ++ decimal port ++ codes " " ++ protocol ++ codes " " ++ decimal c.pt)
      ++ (ended (codes "a=rtpmap:" ++ decimal c.pt ++ codes " " ++ codec_name w.codec ++ codes "/" ++ decimal
      (clock w.codec) ++ codes "/" ++ decimal w.channels)
      ++ flat_map ended (given_lines ++ ys ++ zs))
      ≡ (front_text port ++ protocol ++ map_text w c.pt) ++ (parameters_text c ++ (b ++ d))
  with_times ys zs b d second third = fronts port c.pt w protocol (flat_map ended (given_lines ++ ys ++ zs))
      ∙ ap (λ t. (front_text port ++ protocol ++ map_text w c.pt) ++ t)
      (three given_lines ys zs (parameters_text c) b d (given c.pt (printed c.parameters)
      (is_empty (printed c.parameters))) second third)

  of_times : (ptime maxptime : Option ℕ) → answer_text (offer ptime maxptime) w port c ≡ in_pieces
      (offer ptime maxptime)
  of_times None None = with_times [] [] [] [] refl refl
  of_times (Some n) None = with_times ((codes "a=ptime:" ++ decimal n) ∷ []) []
      (time_text (codes "a=ptime:") (Some n)) [] (a_time (codes "a=ptime:") n) refl
  of_times None (Some m) = with_times [] ((codes "a=maxptime:" ++ decimal m) ∷ []) []
      (time_text (codes "a=maxptime:") (Some m)) refl (a_time (codes "a=maxptime:") m)
  of_times (Some n) (Some m) = with_times ((codes "a=ptime:" ++ decimal n) ∷ [])
      ((codes "a=maxptime:" ++ decimal m) ∷ [])
      (time_text (codes "a=ptime:") (Some n)) (time_text (codes "a=maxptime:") (Some m))
      (a_time (codes "a=ptime:") n) (a_time (codes "a=maxptime:") m)

-- the text of an answer is its pieces
pub pieces_are : (o : Offer) (w : Wanted) (port : ℕ) (c : Chosen)
    → (front_text port ++ o.protocol ++ map_text w c.pt) ++ (parameters_text c ++ times_text o)
    ≡ answer_text o w port c
pieces_are o w port c = sym (of_times o.types o.protocol w port c o.ptime o.maxptime)
