-- The words behind a command: pairs of an option and its value, in any order. This project's own.
use Rattle.std.specs.Prelude.{ℕ, Bool, true, not, ◌&&◌, List, [], ◌∷◌, map, find, Option, option_map, is_some, bytes_eq, string_bytes, String}
use Rattle.std.specs.declared.alloc.Global.{Global}

-- an option, and the word behind it
pub record Pair : Type 0 where
  pub option : List ℕ
  pub value : List ℕ

-- the octets of each word
abbrev pub texts : List (String Global) → List (List ℕ)
texts words = map string_bytes words

-- the words by twos; a last word without another is in no pair
abbrev pub pairs : List (List ℕ) → List Pair
pairs [] = []
pairs (option ∷ []) = []
pairs (option ∷ value ∷ rest) = record { option = option; value = value } ∷ pairs rest

-- the word behind an option, where the option stands
abbrev pub value_of : List ℕ → List Pair → Option (List ℕ)
value_of option given = option_map (λ p. p.value) (find (λ p. bytes_eq p.option option) given)

-- no option stands twice: none is found among the pairs behind its own
abbrev pub all_differ : List Pair → Bool
all_differ [] = true
all_differ (p ∷ rest) = not (is_some (value_of p.option rest)) && all_differ rest
