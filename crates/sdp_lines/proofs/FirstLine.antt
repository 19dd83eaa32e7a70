-- The first line of a text that has one.
use Rattle.std.proofs.Common.{◌≡◌, ℕ, ◌+◌, ◌<◌, false, List, [], ◌∷◌, map, length, Option, None, Some, IfNone, Bor, refl, sym, ◌∙◌, ap, subst, arith}
use Rattle.std.specs.List.{slice_split, enumerate_from}
use Rattle.std.specs.Option.{option_map_or, unwrap_or}
use Rattle.std.proofs.lemmas.Bool.{cond-false, eqb-true, false_from_ne_true}
use Rattle.std.proofs.lemmas.List.Splits.{length-slice_split}
use Rattle.spec_media.specs.Pieces.{is_empty}
use Rattle.spec_offer.specs.Lines.{Line, ended, is_newline, without_return}
use Rattle.sdp_lines.specs.Lines.{lines_from}

-- a line with its number
abbrev pub numbered : ℕ × List ℕ → Line
numbered l = record { number = l.0; text = without_return l.1 }

-- a part that isn't the last ends with its LF
ended_more : (part : List ℕ) (parts : List (List ℕ)) → 0 < length parts → ended (part ∷ parts) ≡ part ∷ ended parts
ended_more part [] some = absurd (omega arith)
ended_more part (next ∷ parts) some = refl

-- what has octets isn't empty
pub not_empty : (text : List ℕ) → 0 < length text → is_empty text ≡ false
not_empty text some = false_from_ne_true (is_empty text) (λ e. absurd (omega (arith, eqb-true (length text) 0 e)))

-- the last part is a line where it isn't empty
ended_last : (part : List ℕ) → 0 < length part → ended (part ∷ []) ≡ part ∷ []
ended_last part some = cond-false (is_empty part) [] (part ∷ []) (not_empty part some)

pub first_line : (number : ℕ) (text first : List ℕ) (after : Option (Bor (List ℕ))) (none rest : Bor (List ℕ)) → 0 < length text
    → slice_split is_newline text ≡ first ∷ option_map_or (λ r. slice_split is_newline r.now) after []
    → IfNone after (first ≡ text) → none.now ≡ [] → rest ≡ unwrap_or after none
    → lines_from number text ≡ numbered (number, first) ∷ lines_from (number + 1) rest.now
first_line number text first None none rest some split whole empty is =
    ap (λ parts. map numbered (enumerate_from number (ended parts))) split
    ∙ ap (λ parts. map numbered (enumerate_from number parts))
    (ended_last first (let P : List ℕ → Type 0 = λ t. 0 < length t in subst P (sym whole) some))
    ∙ ap (λ t. numbered (number, first) ∷ lines_from (number + 1) t) (sym (ap (λ b. b.now) is ∙ empty))
first_line number text first (Some r) none rest some split whole empty is =
    ap (λ parts. map numbered (enumerate_from number (ended parts))) split
    ∙ ap (λ parts. map numbered (enumerate_from number parts))
    (ended_more first (slice_split is_newline r.now) (omega (arith, length-slice_split is_newline r.now)))
    ∙ ap (λ t. numbered (number, first) ∷ lines_from (number + 1) t) (sym (ap (λ b. b.now) is))
