-- A text that is cut at the first place of an octet.
use Rattle.std.proofs.Common.{◌≡◌, ℕ, ◌+◌, ◌-◌, ◌<◌, Bool, true, false, nat_eq, List, [], ◌∷◌, length, take, drop, get_or, refl, sym, ◌∙◌, ap, subst, arith}
use Rattle.std.specs.List.{slice_split, before_first, after_first, list_any, position_or_len}
use Rattle.std.proofs.Math.Seq.{take-length}
use Rattle.std.proofs.lemmas.Bool.{false_from_ne_true}
use Rattle.std.proofs.lemmas.Grind.{get_or_default_zero}
use Rattle.std.proofs.lemmas.List.{drop_all, take_rest}
use Rattle.std.proofs.lemmas.List.Recursion.{or_at, or_from_places}
use Rattle.std.proofs.lemmas.List.Splits.{slice_split_first, slice_split_none}
use Rattle.std.proofs.lemmas.List.Sums.{position_or_len_is}
use Rattle.memchr.specs.Find.{Nowhere, NoneBefore, Passes, is_byte}

-- the test that an octet is `c`
abbrev pub is : ℕ → ℕ → Bool
is c o = nat_eq o c

-- the place that a search found is the first
pub found_first : (c : ℕ) (text : List ℕ) (k : ℕ) → NoneBefore (Passes (is_byte c) text) 0 (length text) k
    → Passes (is_byte c) text k → position_or_len (is c) text ≡ k
found_first c text k none here = position_or_len_is (is c) text k 0 (omega (arith, none.high))
    (λ j below. false_from_ne_true (is c (get_or text j 0)) (none.before j (omega arith) below)) (λ _. here)

-- where a search found none, no octet is `c`
pub fails : (c : ℕ) (text : List ℕ) → Nowhere (Passes (is_byte c) text) 0 (length text)
    → (j : ℕ) → j < length text → is c (get_or text j 0) ≡ false
fails c text none j below = false_from_ne_true (is c (get_or text j 0)) (none j (omega arith) below)

pub found_none : (c : ℕ) (text : List ℕ) → Nowhere (Passes (is_byte c) text) 0 (length text)
    → position_or_len (is c) text ≡ length text
found_none c text none = position_or_len_is (is c) text (length text) 0 (omega arith)
    (λ j below. fails c text none j below) (λ h. absurd (omega arith))

-- cut at the place that was found
pub record IsCut (c : ℕ) (text : List ℕ) (k : ℕ) : Type 0 where
  pub before : take k text ≡ before_first (is c) text
  pub after : take (length text - (k + 1)) (drop (k + 1) text) ≡ after_first (is c) text
  pub found : true ≡ list_any (is c) text
  pub split : slice_split (is c) text ≡ take k text ∷ slice_split (is c) (take (length text - (k + 1)) (drop (k + 1) text))

pub cut_at : (c : ℕ) (text : List ℕ) (k : ℕ) → NoneBefore (Passes (is_byte c) text) 0 (length text) k
    → Passes (is_byte c) text k → IsCut c text k
cut_at c text k none here =
    let first = found_first c text k none here in
    let below : position_or_len (is c) text < length text = omega (arith, none.high) in
    let rest = take_rest text (k + 1) in
    let before = ap (λ n. take n text) (sym first) in
    let after = rest ∙ ap (λ n. drop (n + 1) text) (sym first) in
    record {
      before = before;
      after = after;
      found = sym (or_at (list_any (is c)) (is c) refl (λ _ _. refl) text k 0 none.high here);
      split = slice_split_first (is c) text 0 below
          ∙ ap (λ xs. xs ∷ slice_split (is c) (after_first (is c) text)) (sym before)
          ∙ ap (λ xs. take k text ∷ slice_split (is c) xs) (sym after);
    }

-- where there is no place
pub record IsUncut (c : ℕ) (text : List ℕ) : Type 0 where
  pub before : text ≡ before_first (is c) text
  pub after : after_first (is c) text ≡ []
  pub found : false ≡ list_any (is c) text
  pub split : slice_split (is c) text ≡ text ∷ []

pub uncut : (c : ℕ) (text : List ℕ) → Nowhere (Passes (is_byte c) text) 0 (length text) → IsUncut c text
uncut c text none =
    let last = found_none c text none in
    record {
      before = sym (take-length text) ∙ ap (λ n. take n text) (sym last);
      after = drop_all (position_or_len (is c) text + 1) text (omega arith);
      found = sym (or_from_places (list_any (is c)) (is c) refl (λ _ _. refl) text 0 (fails c text none));
      split = slice_split_none (is c) text (λ k d below. let P : ℕ → Type 0 = λ o. is c o ≡ false in
          subst P (sym (get_or_default_zero text k d below)) (fails c text none k below));
    }
