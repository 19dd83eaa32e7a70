-- In which order the octets of a payload's frames stand (RFC 4867, 4.4.3 and 4.4.4).
use Rattle.std.specs.Prelude.{ℕ, max, Bool, true, false, List, map, filter, length, nat_lt, slice_index, flat_map, fold}
use Rattle.std.specs.List.{range_with_len}

-- octet `octet` of frame `frame`, both counted from 0
pub record Place : Type 0 where
  pub octet : ℕ
  pub frame : ℕ

abbrev pub place : ℕ → ℕ → Place
place octet frame = record { octet = octet; frame = frame }

-- frame by frame, for frames of these many octets
abbrev pub plain_order : List ℕ → List Place
plain_order lengths =
    flat_map (λ f. map (λ o. place o f) (range_with_len 0 (slice_index lengths f)))
    (range_with_len 0 (length lengths))

-- the robust order: the first octets of all frames, then the second octets of all that have one,
-- and so on
abbrev pub robust_order : List ℕ → List Place
robust_order lengths =
    flat_map (λ o. map (λ f. place o f)
    (filter (λ f. nat_lt o (slice_index lengths f)) (range_with_len 0 (length lengths))))
    (range_with_len 0 (fold max 0 lengths))

-- the order of a format that sorts, or doesn't
abbrev pub order : Bool → List ℕ → List Place
order false lengths = plain_order lengths
order true lengths = robust_order lengths
