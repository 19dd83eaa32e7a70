-- The lines of a session description (RFC 4566, 5): each ends with LF, or with CR LF.
use Rattle.std.specs.Prelude.{ℕ, ◌-◌, Bool, cond, nat_eq, List, [], ◌∷◌, length, map, take, drop, bytes_eq}
use Rattle.std.specs.List.{slice_split, enumerate_from}
use Rattle.spec_media.specs.Pieces.{is_empty}

-- a line with its number, counted from 1
pub record Line : Type 0 where
  pub number : ℕ
  pub text : List ℕ

abbrev pub is_newline : ℕ → Bool
is_newline o = nat_eq o 10

-- a line without the CR at its end
abbrev pub without_return : List ℕ → List ℕ
without_return line =
    cond (bytes_eq (drop (length line - 1) line) (13 ∷ [])) (take (length line - 1) line) line

-- the lines among the parts that LF splits a text into: an empty last part is none
abbrev pub ended : List (List ℕ) → List (List ℕ)
ended [] = []
ended (part ∷ []) = cond (is_empty part) [] (part ∷ [])
ended (part ∷ next ∷ parts) = part ∷ ended (next ∷ parts)

-- the lines of a text
abbrev pub lines : List ℕ → List Line
lines text = map (λ l. record { number = l.0; text = without_return l.1 })
    (enumerate_from 1 (ended (slice_split is_newline text)))

-- whether a line begins with these octets
abbrev pub begins : List ℕ → Line → Bool
begins front line = bytes_eq front (take (length front) line.text)

-- what stands behind them
abbrev pub behind : List ℕ → Line → List ℕ
behind front line = drop (length front) line.text
