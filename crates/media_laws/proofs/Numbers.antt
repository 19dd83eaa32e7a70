-- Numbers that are printed and read again.
use Rattle.std.proofs.Common.{◌≡◌, ◌⊎◌, ⊎_elim, inl, inr, nat_eq, ℕ, ◌<◌, ◌≤◌, ◌^◌, true, false, cond, ◌&&◌, List, [], ◌∷◌, ◌++◌, length, map, refl, ap, ◌∙◌, arith, ne_eqb, le-leb, filter_map, flat_map, Some, None, decimal, codes}
use Rattle.std.specs.List.{AllByRecursion, cons_option}
use Rattle.std.specs.Str.{all_ascii_digits}
use Rattle.std.specs.Str.Parse.{AllDigits, digits_value}
use Rattle.std.proofs.lemmas.Fmt.{decimal_is_IsNumeral, decimal_nonempty, length-decimal-le}
use Rattle.std.proofs.lemmas.Str.Parse.{digit_from_value, numerals_by_value, tells_all_ascii_digits}
use Rattle.media_laws.proofs.Texts.{AreInk, IsInk, IsWhole, splits, trimmed_ink}
use Rattle.spec_media.specs.Pieces.{is_comma, is_semicolon, items, number_in, trimmed}
use Rattle.spec_media.specs.Printing.{mode_list}

-- a digit, and what a list of numbers is made of
abbrev IsFigure : ℕ → Type 0
IsFigure o = (48 ≤ o) × (o ≤ 57)

figures_of : (text : List ℕ) → AllDigits 10 text → AllByRecursion IsFigure text
figures_of [] d = tt
figures_of (o ∷ text) d = (digit_from_value o d.0, figures_of text d.1)

small : (n : ℕ) → n < 2 ^ 16 → n < 2 ^ 64
small n h = omega arith

pub figures : (n : ℕ) → n < 2 ^ 16 → AllByRecursion IsFigure (decimal n)
figures n h = figures_of (decimal n) (decimal_is_IsNumeral n (small n h)).0.1

pub figures_are_ink : (text : List ℕ) → AllByRecursion IsFigure text → AreInk text
figures_are_ink [] h = tt
figures_are_ink (o ∷ text) h = (omega (arith, h.0), figures_are_ink text h.1)

pub decimal_ink : (n : ℕ) → n < 2 ^ 16 → AreInk (decimal n)
decimal_ink n h = figures_are_ink (decimal n) (figures n h)

pub figures_are_whole : (c : ℕ) → (c < 48) ⊎ (57 < c) → (text : List ℕ) → AllByRecursion IsFigure text → IsWhole (λ o. nat_eq o c) text
figures_are_whole c far [] h = tt
figures_are_whole c far (o ∷ text) h = (ne_eqb o c (λ e. ⊎_elim (λ l. omega (arith, h.0)) (λ l. omega (arith, h.0)) far), figures_are_whole c far text h.1)

-- a number of 16 bits that is printed is read
pub number_printed : (n : ℕ) → n < 2 ^ 16 → number_in 5 (decimal n) ≡ Some n
number_printed n h =
    let numeral = decimal_is_IsNumeral n (small n h) in
    let digits : all_ascii_digits (decimal n) ≡ true = (numerals_by_value (λ ds. all_ascii_digits ds ≡ true) tells_all_ascii_digits).from (decimal n) numeral.0.1 in
    let some = le-leb 1 (length (decimal n)) (decimal_nonempty n (small n h)) in
    let few = le-leb (length (decimal n)) 5 (length-decimal-le 5 n (omega arith) (omega arith) (small n h)) in
    (λ i. cond (some i && (few i && digits i)) (Some (digits_value 10 (decimal n))) None) ∙ ap Some numeral.1

pub trimmed_number : (n : ℕ) → n < 2 ^ 16 → number_in 5 (trimmed (decimal n)) ≡ Some n
trimmed_number n h = ap (number_in 5) (trimmed_ink (decimal n) (decimal_ink n h)) ∙ number_printed n h

-- a list of numbers that is printed is read
abbrev pub AreShort : List ℕ → Type 0
AreShort ns = AllByRecursion (λ n. n < 2 ^ 16) ns

trimmed_all : (ns : List ℕ) → AreShort ns → map trimmed (map decimal ns) ≡ map decimal ns
trimmed_all [] h = refl
trimmed_all (n ∷ ns) h = λ i. trimmed_ink (decimal n) (decimal_ink n h.0) i ∷ trimmed_all ns h.1 i

whole_all : (ns : List ℕ) → AreShort ns → AllByRecursion (λ n. IsWhole is_comma ([] ++ decimal n)) ns
whole_all [] h = tt
whole_all (n ∷ ns) h = (figures_are_whole 44 (inl (omega arith)) (decimal n) (figures n h.0), whole_all ns h.1)

pub items_printed : (ns : List ℕ) → 0 < length ns → AreShort ns → items (mode_list ns) ≡ map decimal ns
items_printed [] some h = absurd (omega arith)
items_printed (n ∷ ns) some h = ap (map trimmed) (splits is_comma decimal 44 [] (decimal n) ns refl (whole_all (n ∷ ns) h).0 (whole_all ns h.1)) ∙ trimmed_all (n ∷ ns) h

pub numbers_printed : (ns : List ℕ) → AreShort ns → filter_map (number_in 5) (map decimal ns) ≡ ns
numbers_printed [] h = refl
numbers_printed (n ∷ ns) h = λ i. cons_option (number_printed n h.0 i) (numbers_printed ns h.1 i)

-- the octets of a list of numbers: no white, and no `;`
figures_whole : (n : ℕ) → n < 2 ^ 16 → IsWhole is_semicolon (decimal n)
figures_whole n h = figures_are_whole 59 (inr (omega arith)) (decimal n) (figures n h)

module _ {X : Type 0} (P : X → Type 0) where
  pub all_append : (xs ys : List X) → AllByRecursion P xs → AllByRecursion P ys → AllByRecursion P (xs ++ ys)
  all_append [] ys h k = k
  all_append (x ∷ xs) ys h k = (h.0, all_append xs ys h.1 k)

  pub all_behind : {Y : Type 0} (f : Y → List X) (sep : List X) (ys : List Y) → AllByRecursion P sep → AllByRecursion (λ y. AllByRecursion P (f y)) ys → AllByRecursion P (flat_map (λ y. sep ++ f y) ys)
  all_behind f sep [] s h = tt
  all_behind f sep (y ∷ ys) s h = all_append (sep ++ f y) (flat_map (λ z. sep ++ f z) ys) (all_append sep (f y) s h.0) (all_behind f sep ys s h.1)

each_ink : (ns : List ℕ) → AreShort ns → AllByRecursion (λ n. AreInk (decimal n)) ns
each_ink [] h = tt
each_ink (n ∷ ns) h = (decimal_ink n h.0, each_ink ns h.1)

each_whole : (ns : List ℕ) → AreShort ns → AllByRecursion (λ n. IsWhole is_semicolon (decimal n)) ns
each_whole [] h = tt
each_whole (n ∷ ns) h = (figures_whole n h.0, each_whole ns h.1)

-- a value that is printed: no white, and no `;`
pub record IsValue (text : List ℕ) : Type 0 where
  pub ink : AreInk text
  pub whole : IsWhole is_semicolon text

pub number_value : (n : ℕ) → n < 2 ^ 16 → IsValue (decimal n)
number_value n h = record { ink = decimal_ink n h; whole = figures_whole n h }

pub list_value : (ns : List ℕ) → AreShort ns → IsValue (mode_list ns)
list_value [] h = record { ink = tt; whole = tt }
list_value (n ∷ ns) h = record {
  ink = all_append IsInk (decimal n) (flat_map (λ m. codes "," ++ decimal m) ns) (decimal_ink n h.0) (all_behind IsInk decimal (codes ",") ns (omega arith, tt) (each_ink ns h.1));
  whole = all_append (λ o. is_semicolon o ≡ false) (decimal n) (flat_map (λ m. codes "," ++ decimal m) ns) (figures_whole n h.0) (all_behind (λ o. is_semicolon o ≡ false) decimal (codes ",") ns (refl, tt) (each_whole ns h.1));
}
