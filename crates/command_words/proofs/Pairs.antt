-- The pairs of words, two words at a time.
use Rattle.std.proofs.Common.{◌≡◌, ◌<◌, Bool, ◌||◌, List, [], ◌∷◌, map, length, String, ap, refl, arith}
use Rattle.std.specs.List.{list_any}
use Rattle.std.specs.declared.alloc.Global.{Global}
use Rattle.spec_words.specs.Words.{texts, pairs}

-- of one word there is no pair
pub pairs_short : (w : List (String Global)) → length w < 2 → pairs (texts w) ≡ []
pairs_short [] short = refl
pairs_short (x ∷ []) short = refl
pairs_short (x ∷ y ∷ rest) short = absurd (omega arith)

-- a test of what each item stands for
pub any_of_map : {A B : Type 0} (test : B → Bool) (of : A → B) (xs : List A)
    → list_any (λ x. test (of x)) xs ≡ list_any test (map of xs)
any_of_map test of [] = refl
any_of_map test of (x ∷ xs) = ap (λ more. test (of x) || more) (any_of_map test of xs)
