-- The parts of a text that is split at an octet.
use Rattle.std.specs.Prelude.{ℕ, ◌-◌, nat_eq, List, [], length, take, Option}
use Rattle.std.specs.Borrow.{Bor}
use Rattle.std.specs.List.{slice_split, suffix_len}
use Rattle.std.specs.Option.{option_map_or}
use Rattle.spec_media.specs.Pieces.{is_white}

-- the parts of what is left, if anything is
abbrev pub parts_in : ℕ → Option (Bor (List ℕ)) → List (List ℕ)
parts_in octet rest = option_map_or (λ text. slice_split (λ o. nat_eq o octet) text.now) rest []

-- a text without the white at its end
abbrev pub without_end : List ℕ → List ℕ
without_end text = take (length text - suffix_len is_white text) text
