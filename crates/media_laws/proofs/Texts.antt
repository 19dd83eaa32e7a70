-- Texts without white, and the parts of texts that were joined.
use Rattle.std.proofs.Common.{◌≡◌, ℕ, zero, suc, ◌+◌, ◌-◌, ◌<◌, Bool, true, false, not, cond, ◌||◌, List, [], ◌∷◌, ◌++◌, length, map, take, drop, get_or, refl, ap, ◌∙◌, arith, append-nil, ne_eqb, take_all, filter, flat_map, codes}
use Rattle.std.specs.List.{AllByRecursion, slice_split, onto_first, prefix_len, suffix_len, join_by}
use Rattle.std.proofs.lemmas.List.Sums.{suffix_len_is}
use Rattle.spec_media.specs.Pieces.{is_white, is_semicolon, is_empty, trimmed, pieces}

-- no white and no control character
abbrev pub IsInk : ℕ → Type 0
IsInk o = 32 < o

abbrev pub AreInk : List ℕ → Type 0
AreInk text = AllByRecursion IsInk text

-- no octet of the text is one at which it is split
abbrev pub IsWhole : (ℕ → Bool) → List ℕ → Type 0
IsWhole p text = AllByRecursion (λ o. p o ≡ false) text

pub all_at : {X : Type 0} (P : X → Type 0) (xs : List X) → AllByRecursion P xs → (k : ℕ) (d : X) → k < length xs → P (get_or xs k d)
all_at P [] h k d l = absurd (omega arith)
all_at P (x ∷ xs) h zero d l = h.0
all_at P (x ∷ xs) h (suc k) d l = all_at P xs h.1 k d (omega arith)

ink_is_not_white : (o : ℕ) → 32 < o → is_white o ≡ false
ink_is_not_white o h i = ne_eqb o 32 (λ e. omega arith) i || ne_eqb o 9 (λ e. omega arith) i

no_white_before : (text : List ℕ) → AreInk text → prefix_len is_white text ≡ 0
no_white_before [] h = refl
no_white_before (o ∷ text) h = ap (λ b. cond b (1 + prefix_len is_white text) 0) (ink_is_not_white o h.0)

no_white_behind : (text : List ℕ) → AreInk text → suffix_len is_white text ≡ 0
no_white_behind text h = suffix_len_is is_white text (length text) 0 (omega arith) (λ k a b. absurd (omega arith))
    (λ some. ink_is_not_white (get_or text (length text - 1) 0) (all_at IsInk text h (length text - 1) 0 (omega arith))) ∙ omega arith

-- what is left of a text behind n octets of white
abbrev left_of : List ℕ → ℕ → List ℕ
left_of text n = take (length (drop n text) - suffix_len is_white (drop n text)) (drop n text)

pub trimmed_ink : (text : List ℕ) → AreInk text → trimmed text ≡ text
trimmed_ink text h = ap (left_of text) (no_white_before text h) ∙ take_all (length text - suffix_len is_white text) text (omega (arith, no_white_behind text h))

pub trimmed_space : (text : List ℕ) → trimmed (32 ∷ text) ≡ trimmed text
trimmed_space text = let more : 1 + prefix_len is_white text ≡ suc (prefix_len is_white text) = omega arith in ap (left_of (32 ∷ text)) more

module _ (p : ℕ → Bool) where
  pub split_none : (text : List ℕ) → IsWhole p text → slice_split p text ≡ text ∷ []
  split_none [] h = refl
  split_none (o ∷ text) h = ap (λ b. cond b ([] ∷ slice_split p text) (onto_first o (slice_split p text))) h.0 ∙ ap (onto_first o) (split_none text h.1)

  pub split_at : (text : List ℕ) (c : ℕ) (rest : List ℕ) → p c ≡ true → IsWhole p text → slice_split p (text ++ c ∷ rest) ≡ text ∷ slice_split p rest
  split_at [] c rest t h = ap (λ b. cond b ([] ∷ slice_split p rest) (onto_first c (slice_split p rest))) t
  split_at (o ∷ text) c rest t h = ap (λ b. cond b ([] ∷ slice_split p (text ++ c ∷ rest)) (onto_first o (slice_split p (text ++ c ∷ rest)))) h.0 ∙ ap (onto_first o) (split_at text c rest t h.1)

  -- a text, and others behind it with an octet between them at which the whole is split
  pub splits : {X : Type 0} (f : X → List ℕ) (c : ℕ) (gap text : List ℕ) (xs : List X) → p c ≡ true → IsWhole p text → AllByRecursion (λ x. IsWhole p (gap ++ f x)) xs
      → slice_split p (text ++ flat_map (λ x. c ∷ (gap ++ f x)) xs) ≡ text ∷ map (λ x. gap ++ f x) xs
  splits f c gap text [] t h hs = ap (slice_split p) (append-nil text) ∙ split_none text h
  splits f c gap text (x ∷ xs) t h hs = split_at text c ((gap ++ f x) ++ flat_map (λ y. c ∷ (gap ++ f y)) xs) t h ∙ ap (λ r. text ∷ r) (splits f c gap (gap ++ f x) xs t hs.0 hs.1)

-- a piece: not empty, without white and without `;`
pub record IsPiece (text : List ℕ) : Type 0 where
  pub ink : AreInk text
  pub whole : IsWhole is_semicolon text
  pub some : is_empty text ≡ false

-- the texts among these that aren't empty, trimmed
abbrev kept : List (List ℕ) → List (List ℕ)
kept parts = filter (λ piece. not (is_empty piece)) (map trimmed parts)

kept_piece : (text : List ℕ) (parts : List (List ℕ)) (x : List ℕ) → trimmed text ≡ x → is_empty x ≡ false → kept (text ∷ parts) ≡ x ∷ kept parts
kept_piece text parts x e some = ap (λ t. cond (not (is_empty t)) (t ∷ kept parts) (kept parts)) e ∙ ap (λ b. cond (not b) (x ∷ kept parts) (kept parts)) some

kept_all : (xs : List (List ℕ)) → AllByRecursion IsPiece xs → kept (map (λ x. 32 ∷ x) xs) ≡ xs
kept_all [] h = refl
kept_all (x ∷ xs) h = kept_piece (32 ∷ x) (map (λ y. 32 ∷ y) xs) x (trimmed_space x ∙ trimmed_ink x h.0.ink) h.0.some ∙ ap (λ r. x ∷ r) (kept_all xs h.1)

whole_behind : (xs : List (List ℕ)) → AllByRecursion IsPiece xs → AllByRecursion (λ x. IsWhole is_semicolon (32 ∷ x)) xs
whole_behind [] h = tt
whole_behind (x ∷ xs) h = ((refl, h.0.whole), whole_behind xs h.1)

-- pieces that were joined are the pieces of the text
pub joined_pieces : (xs : List (List ℕ)) → AllByRecursion IsPiece xs → pieces (join_by (λ x. x) (codes "; ") xs) ≡ xs
joined_pieces [] h = refl
joined_pieces (x ∷ xs) h = ap kept (splits is_semicolon (λ y. y) 59 (32 ∷ []) x xs refl h.0.whole (whole_behind xs h.1))
    ∙ kept_piece x (map (λ y. 32 ∷ y) xs) x (trimmed_ink x h.0.ink) h.0.some ∙ ap (λ r. x ∷ r) (kept_all xs h.1)
