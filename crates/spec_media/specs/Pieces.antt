-- The pieces of a text of media parameters (RFC 4566, 6, and RFC 4867, 8.3: name=value, with `;`
-- between them). Which white may stand where is this project's own.
use Rattle.std.specs.Prelude.{ℕ, ◌-◌, Bool, not, ◌&&◌, ◌||◌, cond, nat_eq, nat_le, List, length, map, filter, take, drop, Option, Some, None}
use Rattle.std.specs.List.{slice_split, before_first, after_first, prefix_len, suffix_len}
use Rattle.std.specs.Str.{all_ascii_digits}
use Rattle.std.specs.Str.Parse.{digits_value}

-- white is a space or a tab
abbrev pub is_white : ℕ → Bool
is_white o = nat_eq o 32 || nat_eq o 9

-- a text without the white at its two ends
abbrev pub trimmed : List ℕ → List ℕ
trimmed text = let front = drop (prefix_len is_white text) text in
    take (length front - suffix_len is_white front) front

abbrev pub is_semicolon : ℕ → Bool
is_semicolon o = nat_eq o 59

abbrev pub is_comma : ℕ → Bool
is_comma o = nat_eq o 44

abbrev pub is_equals : ℕ → Bool
is_equals o = nat_eq o 61

abbrev pub is_empty : List ℕ → Bool
is_empty text = nat_eq (length text) 0

-- the pieces of a text, split at each `;` and trimmed; empty ones are none
abbrev pub pieces : List ℕ → List (List ℕ)
pieces text = filter (λ piece. not (is_empty piece)) (map trimmed (slice_split is_semicolon text))

-- the name of a piece: what stands before its first `=`, or all where there is none
abbrev pub name_of : List ℕ → List ℕ
name_of piece = trimmed (before_first is_equals piece)

-- its value: what stands behind its first `=`, or nothing
abbrev pub value_of : List ℕ → List ℕ
value_of piece = trimmed (after_first is_equals piece)

-- the number that 1 to `most` decimal digits stand for; leading zeros are allowed
abbrev pub number_in : ℕ → List ℕ → Option ℕ
number_in most text = cond
    (nat_le 1 (length text) && (nat_le (length text) most && all_ascii_digits text))
    (Some (digits_value 10 text)) None

-- the items of a list, split at each comma and trimmed
abbrev pub items : List ℕ → List (List ℕ)
items text = map trimmed (slice_split is_comma text)
