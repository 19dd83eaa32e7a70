-- Pieces gathered one behind another are those pieces joined.
use Rattle.std.proofs.Common.{◌≡◌, ℕ, zero, suc, ◌+◌, ◌<◌, Bool, true, false, cond, List, [], ◌∷◌, ◌++◌, length, filter, filter_map, flat_map, refl, ap, ◌∙◌, sym, arith, append-nil, append_assoc, Option, Some, None, IfSome, option_map, decimal, codes}
use Rattle.std.specs.List.{AllByRecursion, cons_option, join_by, range_with_len}
use Rattle.std.proofs.lemmas.Fmt.{decimal_nonempty}
use Rattle.amr_bits.proofs.Lists.{all_range}
use Rattle.amr_frame.specs.First.{when}
use Rattle.amr_mode.proofs.Sets.{is_set, member}
use Rattle.amr_mode.specs.Members.{members}
use Rattle.amr_mode.specs.declared.mode_set.ModeSet.{ModeSet}
use Rattle.media_params.specs.Gathered.{added}
use Rattle.spec_media.specs.Params.{Parameters, Row, rows}
use Rattle.spec_media.specs.Printing.{mode_list, printed, printed_piece, printed_value}
use Rattle.spec_modes.specs.ModeSets.{has}

module _ {X : Type 0} (between : List ℕ) (f : X → Option (List ℕ)) where
  -- a text and the pieces of a list, one behind another
  abbrev pub gathered : List ℕ → List X → List ℕ
  gathered text [] = text
  gathered text (x ∷ xs) = gathered (added between text (f x)) xs

  -- the pieces of a list, each with what stands between before it
  abbrev rest : List X → List ℕ
  rest xs = flat_map (λ piece. between ++ piece) (filter_map f xs)

  behind_one : (o : ℕ) (text : List ℕ) (v : Option (List ℕ)) (xs : List X)
      → ((t : List ℕ) → gathered (o ∷ t) xs ≡ (o ∷ t) ++ rest xs)
      → gathered (added between (o ∷ text) v) xs ≡ (o ∷ text) ++ flat_map (λ piece. between ++ piece) (cons_option v (filter_map f xs))
  behind_one o text None xs h = h text
  behind_one o text (Some piece) xs h = h ((text ++ between) ++ piece)
      ∙ ap (λ t. (o ∷ t) ++ rest xs) (append_assoc text between piece)
      ∙ append_assoc (o ∷ text) (between ++ piece) (rest xs)

  behind : (xs : List X) (o : ℕ) (text : List ℕ) → gathered (o ∷ text) xs ≡ (o ∷ text) ++ rest xs
  behind [] o text = sym (append-nil (o ∷ text))
  behind (x ∷ xs) o text = behind_one o text (f x) xs (behind xs o)

  joined_one : (v : Option (List ℕ)) (xs : List X) → IfSome v (λ piece. 0 < length piece)
      → gathered [] xs ≡ join_by (λ piece. piece) between (filter_map f xs)
      → gathered (added between [] v) xs ≡ join_by (λ piece. piece) between (cons_option v (filter_map f xs))
  joined_one None xs some h = h
  joined_one (Some []) xs some h = absurd (omega (arith, some))
  joined_one (Some (o ∷ piece)) xs some h = behind xs o piece

  pub joined : (xs : List X) → AllByRecursion (λ x. IfSome (f x) (λ piece. 0 < length piece)) xs
      → gathered [] xs ≡ join_by (λ piece. piece) between (filter_map f xs)
  joined [] some = refl
  joined (x ∷ xs) some = joined_one (f x) xs some.0 (joined xs some.1)

-- the pieces of parameters have a name
named : (name : List ℕ) (v : Option (List ℕ)) → IfSome (option_map (λ value. name ++ codes "=" ++ value) v) (λ piece. 0 < length piece)
named name None = tt
named [] (Some value) = omega arith
named (o ∷ name) (Some value) = omega arith

pub text_is : (p : Parameters) → gathered (codes "; ") (printed_piece p) [] rows ≡ printed p
text_is p = joined (codes "; ") (printed_piece p) rows (all_named rows)
  where
    all_named : (rs : List Row) → AllByRecursion (λ r. IfSome (printed_piece p r) (λ piece. 0 < length piece)) rs
    all_named [] = tt
    all_named (r ∷ rs) = (named r.name (printed_value p r.param), all_named rs)

-- the modes of a set up to one of them
abbrev pub mode_piece : ModeSet → ℕ → Option (List ℕ)
mode_piece set mode = when (has (members set) mode) (decimal mode)

abbrev pub modes_to : ModeSet → ℕ → List ℕ
modes_to set zero = []
modes_to set (suc mode) = added (codes ",") (modes_to set mode) (mode_piece set mode)

-- a mode in front of others, where it is among those that are kept
kept_one : (m : ℕ) (b : Bool) (ms : List ℕ) (pieces : List (List ℕ))
    → flat_map (λ piece. codes "," ++ piece) pieces ≡ flat_map (λ k. codes "," ++ decimal k) ms
    → flat_map (λ piece. codes "," ++ piece) (cons_option (when b (decimal m)) pieces) ≡ flat_map (λ k. codes "," ++ decimal k) (cond b (m ∷ ms) ms)
kept_one m true ms pieces h = ap (λ t. codes "," ++ decimal m ++ t) h
kept_one m false ms pieces h = h

list_one : (m : ℕ) (b : Bool) (ms : List ℕ) (pieces : List (List ℕ))
    → flat_map (λ piece. codes "," ++ piece) pieces ≡ flat_map (λ k. codes "," ++ decimal k) ms
    → join_by (λ piece. piece) (codes ",") pieces ≡ join_by decimal (codes ",") ms
    → join_by (λ piece. piece) (codes ",") (cons_option (when b (decimal m)) pieces) ≡ join_by decimal (codes ",") (cond b (m ∷ ms) ms)
list_one m true ms pieces h k = ap (λ t. decimal m ++ t) h
list_one m false ms pieces h k = k

module _ (q : ℕ → Bool) where
  kept_joined : (ms : List ℕ) → flat_map (λ piece. codes "," ++ piece) (filter_map (λ m. when (q m) (decimal m)) ms) ≡ flat_map (λ k. codes "," ++ decimal k) (filter q ms)
  kept_joined [] = refl
  kept_joined (m ∷ ms) = kept_one m (q m) (filter q ms) (filter_map (λ k. when (q k) (decimal k)) ms) (kept_joined ms)

  list_joined : (ms : List ℕ) → join_by (λ piece. piece) (codes ",") (filter_map (λ m. when (q m) (decimal m)) ms) ≡ join_by decimal (codes ",") (filter q ms)
  list_joined [] = refl
  list_joined (m ∷ ms) = list_one m (q m) (filter q ms) (filter_map (λ k. when (q k) (decimal k)) ms) (kept_joined ms) (list_joined ms)

shown : (b : Bool) (m : ℕ) → m < 16 → IfSome (when b (decimal m)) (λ piece. 0 < length piece)
shown true m h = decimal_nonempty m (omega arith)
shown false m h = tt

next_mode : (set : ModeSet) (mode next : ℕ) → next ≡ suc mode → modes_to set next ≡ added (codes ",") (modes_to set mode) (mode_piece set mode)
next_mode set mode next e = ap (modes_to set) e

-- a mode more
pub one_more : (set : ModeSet) (mode : ℕ) (old new : List ℕ) → old ≡ modes_to set mode
    → new ≡ added (codes ",") old (mode_piece set mode) → new ≡ modes_to set (mode + 1)
one_more set mode old new was is = is ∙ ap (λ t. added (codes ",") t (mode_piece set mode)) was ∙ sym (next_mode set mode (mode + 1) (omega arith))

pub modes_are : (set : ModeSet) → modes_to set 16 ≡ mode_list (members set)
unfolding members
modes_are set =
    joined (codes ",") (mode_piece set) (range_with_len 0 16) (all_range (λ m. IfSome (mode_piece set m) (λ piece. 0 < length piece)) 0 16 (λ m l u. shown (has (members set) m) m (omega arith)))
    ∙ ap (join_by (λ piece. piece) (codes ",")) (by_bits (range_with_len 0 16) (all_range (λ m. has (members set) m ≡ is_set set.bits m) 0 16 (λ m l u. member set m (omega arith))))
    ∙ list_joined (is_set set.bits) (range_with_len 0 16)
  where
    by_bits : (xs : List ℕ) → AllByRecursion (λ m. has (members set) m ≡ is_set set.bits m) xs → filter_map (mode_piece set) xs ≡ filter_map (λ m. when (is_set set.bits m) (decimal m)) xs
    by_bits [] h = refl
    by_bits (x ∷ xs) h = λ i. cons_option (when (h.0 i) (decimal x)) (by_bits xs h.1 i)

pub all_modes_are : (set : ModeSet) (mode : ℕ) (text : List ℕ) → mode ≡ 16 → text ≡ modes_to set mode → text ≡ mode_list (members set)
all_modes_are set mode text e is = is ∙ ap (modes_to set) e ∙ modes_are set
