-- What stands behind `m=audio `, taken apart.
use Rattle.std.proofs.Common.{◌≡◌, ℕ, ◌<◌, Bool, true, false, ◌||◌, cond, List, [], ◌∷◌, length, None, Some, refl, sym, ◌∙◌, ap, arith}
use Rattle.std.specs.Prelude.{filter_map, fold}
use Rattle.std.specs.List.{list_any, slice_split}
use Rattle.std.proofs.lemmas.List.Splits.{length-slice_split}
use Rattle.spec_media.specs.Pieces.{is_empty}
use Rattle.spec_offer.specs.Attributes.{firsts, is_space, media_in, payload_type}
use Rattle.sdp_lines.specs.Formats.{with_word, with_words}
use Rattle.sdp_lines.proofs.Firsts.{first_types}

-- three words and more
of_words : (text port protocol : List ℕ) (words : List (List ℕ)) (types : List ℕ) → 0 < length words
    → slice_split is_space text ≡ port ∷ protocol ∷ words → list_any is_empty (port ∷ protocol ∷ words) ≡ false
    → firsts (filter_map payload_type words) ≡ types
    → media_in text ≡ Some (record { protocol = protocol; formats = types })
of_words text port protocol [] types some split full e = absurd (omega arith)
of_words text port protocol (word ∷ words) types some split full e = rw (split, full, e) refl

-- what is there isn't `None`
kept : (b : Bool) (x types : List ℕ) → Some types ≡ cond b None (Some x) → (b ≡ false) × (types ≡ x)
kept true x types e = absurd cc
kept false x types e = (refl, cc)

pub media_is : (text port protocol rest types : List ℕ)
    → slice_split is_space text ≡ port ∷ protocol ∷ slice_split is_space rest → is_empty port ≡ false → is_empty protocol ≡ false
    → Some types ≡ with_words [] (slice_split is_space rest)
    → Some (record { protocol = protocol; formats = types }) ≡ media_in text
media_is text port protocol rest types split first second taken =
    let words = slice_split is_space rest in
    let parts = kept (list_any is_empty words) (fold with_word [] words) types taken in
    let full : list_any is_empty (port ∷ protocol ∷ words) ≡ false =
    ap (λ b. b || list_any is_empty (protocol ∷ words)) first ∙ ap (λ b. b || list_any is_empty words) second ∙ parts.0 in
    sym (of_words text port protocol words types (omega (arith, length-slice_split is_space rest)) split full
    (sym (first_types words) ∙ sym parts.1))
