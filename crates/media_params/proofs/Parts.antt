-- Texts cut at an octet, and without white at their ends.
use Rattle.std.proofs.Common.{◌≡◌, ℕ, ◌+◌, ◌-◌, ◌<◌, ◌≤◌, Bool, true, false, not, nat_eq, List, [], ◌∷◌, length, take, drop, get_or, sym, ap, ◌∙◌, arith, take_all, Option, Some}
use Rattle.std.specs.Borrow.{Bor}
use Rattle.std.specs.List.{after_first, before_first, position_or_len, prefix_len, slice_split}
use Rattle.std.proofs.lemmas.List.{drop_all, get_or_default}
use Rattle.std.proofs.lemmas.List.Splits.{slice_split_first, slice_split_none}
use Rattle.std.proofs.lemmas.List.Sums.{prefix_len_is, suffix_len_is}
use Rattle.media_params.specs.Parts.{parts_in, without_end}
use Rattle.spec_media.specs.Pieces.{is_white}

-- none of the first k octets is this one, nor one that passes a test
abbrev pub NoneOf : (ℕ → Bool) → List ℕ → ℕ → Type 0
NoneOf p text n = (k : ℕ) → k < n → p (get_or text k 0) ≡ false

abbrev pub AllOf : (ℕ → Bool) → List ℕ → ℕ → Type 0
AllOf p text n = (k : ℕ) → k < n → p (get_or text k 0) ≡ true

module _ (p : ℕ → Bool) (text : List ℕ) where
  pub place_is : (n : ℕ) → n < length text → NoneOf p text n → p (get_or text n 0) ≡ true → position_or_len p text ≡ n
  place_is n l h e = prefix_len_is (λ x. not (p x)) text n 0 (omega arith) (λ k u. ap not (h k u)) (λ u. ap not e)

  pub no_place : NoneOf p text (length text) → position_or_len p text ≡ length text
  no_place h = prefix_len_is (λ x. not (p x)) text (length text) 0 (omega arith) (λ k u. ap not (h k u)) (λ u. absurd (omega arith))

  pub front_is : (n : ℕ) → n < length text → NoneOf p text n → p (get_or text n 0) ≡ true → take n text ≡ before_first p text
  front_is n l h e = ap (λ k. take k text) (sym (place_is n l h e))

  pub back_is : (n : ℕ) → n < length text → NoneOf p text n → p (get_or text n 0) ≡ true → drop (n + 1) text ≡ after_first p text
  back_is n l h e = ap (λ k. drop (k + 1) text) (sym (place_is n l h e))

  pub parts_are : (n : ℕ) → n < length text → NoneOf p text n → p (get_or text n 0) ≡ true → slice_split p text ≡ take n text ∷ slice_split p (drop (n + 1) text)
  parts_are n l h e = slice_split_first p text 0 (omega (arith, place_is n l h e)) ∙ (λ i. sym (front_is n l h e) i ∷ slice_split p (sym (back_is n l h e) i))

  pub one_part : NoneOf p text (length text) → slice_split p text ≡ text ∷ []
  one_part h = slice_split_none p text (λ k d l. all_at k d l)
    where
      all_at : (k : ℕ) (d : ℕ) → k < length text → p (get_or text k d) ≡ false
      all_at k d l = ap p (get_or_default text k d 0 l) ∙ h k l

  pub whole_front : NoneOf p text (length text) → text ≡ before_first p text
  whole_front h = sym (take_all (position_or_len p text) text (omega (arith, no_place h)))

  pub nothing_behind : NoneOf p text (length text) → after_first p text ≡ []
  nothing_behind h = drop_all (position_or_len p text + 1) text (omega (arith, no_place h))

pub start_is : (text : List ℕ) (n : ℕ) → n ≤ length text → AllOf is_white text n → (n < length text → is_white (get_or text n 0) ≡ false) → drop n text ≡ drop (prefix_len is_white text) text
start_is text n l h e = ap (λ k. drop k text) (sym (prefix_len_is is_white text n 0 l h e))

pub end_is : (text : List ℕ) (n : ℕ) → n ≤ length text → ((k : ℕ) → n ≤ k → k < length text → is_white (get_or text k 0) ≡ true) → (0 < n → is_white (get_or text (n - 1) 0) ≡ false) → take n text ≡ without_end text
end_is text n l h e = ap (λ k. take k text) (omega (arith, suffix_len_is is_white text n 0 l h e))

-- what is left of a text, by its next part
pub left_at : (octet : ℕ) (rest : Option (Bor (List ℕ))) (left : Bor (List ℕ)) (part : List ℕ) (more : List (List ℕ)) → rest ≡ Some left → slice_split (λ o. nat_eq o octet) left.now ≡ part ∷ more
    → parts_in octet rest ≡ part ∷ more
left_at octet rest left part more e s = ap (parts_in octet) e ∙ s
