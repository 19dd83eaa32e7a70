-- Payload types, each where it stands first, one after the other.
use Rattle.std.specs.Prelude.{◌<◌, ℕ, length, slice_index, cond, nat_eq, List, [], ◌∷◌, ◌++◌, fold, Option, Some, None}
use Rattle.std.specs.List.{list_any}
use Rattle.std.specs.Option.{option_map_or}
use Rattle.spec_media.specs.Pieces.{is_empty}
use Rattle.spec_offer.specs.Attributes.{payload_type}

-- a payload type more, unless it stands there
abbrev pub with_type : List ℕ → ℕ → List ℕ
with_type types pt = cond (list_any (λ m. nat_eq m pt) types) types (types ++ pt ∷ [])

-- what a word says more
abbrev pub with_word : List ℕ → List ℕ → List ℕ
with_word types word = option_map_or (with_type types) (payload_type word) types

-- these payload types and those of words, of which none is empty
abbrev pub with_words : List ℕ → List (List ℕ) → Option (List ℕ)
with_words types words = cond (list_any is_empty words) None (Some (fold with_word types words))

-- each of these is a payload type
abbrev pub AreTypes : List ℕ → Type 0
AreTypes types = (k : ℕ) → k < length types → slice_index types k < 128
