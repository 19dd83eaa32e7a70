-- Payload types that are gathered one after the other, and those that stand first.
use Rattle.std.proofs.Common.{◌≡◌, ℕ, Bool, true, false, not, ◌||◌, cond, nat_eq, List, [], ◌∷◌, ◌++◌, Option, None, Some, refl, sym, ◌∙◌, ap, subst, append_assoc, arith}
use Rattle.std.specs.Prelude.{filter, filter_map, fold}
use Rattle.std.specs.List.{cons_option, list_any}
use Rattle.std.specs.Option.{option_map_or}
use Rattle.std.proofs.lemmas.Bool.{eqb-true}
use Rattle.std.proofs.lemmas.Bool.Decides.{nat_tests}
use Rattle.std.proofs.lemmas.List.{append-nil}
use Rattle.spec_offer.specs.Attributes.{firsts, payload_type}
use Rattle.sdp_lines.specs.Formats.{with_type, with_word}

-- whether a number is among these
abbrev pub among : List ℕ → ℕ → Bool
among types m = list_any (λ k. nat_eq k m) types

or_false : (b : Bool) → (b || false) ≡ b
or_false true = refl
or_false false = refl

or_true : (b : Bool) → (b || true) ≡ true
or_true true = refl
or_true false = refl

-- a number is equal to itself, and equality is the same both ways
same_number : (n : ℕ) → nat_eq n n ≡ true
same_number n = grind (arith, nat_tests)

swapped : (m n : ℕ) → nat_eq m n ≡ nat_eq n m
swapped m n = grind (arith, nat_tests)

among_more : (types : List ℕ) (n m : ℕ) → among (types ++ n ∷ []) m ≡ (among types m || nat_eq m n)
among_more [] n m = or_false (nat_eq n m) ∙ swapped n m
among_more (k ∷ types) n m = ap (λ b. nat_eq k m || b) (among_more types n m) ∙ assoc (nat_eq k m) (among types m) (nat_eq m n)
  where
    assoc : (a b c : Bool) → (a || (b || c)) ≡ ((a || b) || c)
    assoc true b c = refl
    assoc false b c = refl

-- what is among these or is this number
pub record HasMore (types : List ℕ) (n : ℕ) (new : List ℕ) : Type 0 where
  pub same : (m : ℕ) → among new m ≡ (among types m || nat_eq m n)

dropped_one : (types new : List ℕ) (n m : ℕ) (numbers : List ℕ) (e : Bool) → HasMore types n new → nat_eq m n ≡ e
    → filter (λ k. not (among new k)) numbers ≡ filter (λ k. not (among types k)) (filter (λ k. not (nat_eq k n)) numbers)
    → filter (λ k. not (among new k)) (m ∷ numbers)
    ≡ filter (λ k. not (among types k)) (filter (λ k. not (nat_eq k n)) (m ∷ numbers))
dropped_one types new n m numbers true has e ih =
    let there : among new m ≡ true = has.same m ∙ ap (λ b. among types m || b) e ∙ or_true (among types m) in rw (there, e) ih
dropped_one types new n m numbers false has e ih =
    let there : among new m ≡ among types m = has.same m ∙ ap (λ b. among types m || b) e ∙ or_false (among types m) in
    rw (there, e) (ap (λ r. cond (not (among types m)) (m ∷ r) r) ih)

dropped : (types new : List ℕ) (n : ℕ) (numbers : List ℕ) → HasMore types n new
    → filter (λ k. not (among new k)) numbers ≡ filter (λ k. not (among types k)) (filter (λ k. not (nat_eq k n)) numbers)
dropped types new n [] has = refl
dropped types new n (m ∷ numbers) has =
    dropped_one types new n m numbers (nat_eq m n) has refl (dropped types new n numbers has)

-- a number that stands there is no new one
stands : (types : List ℕ) (n : ℕ) → among types n ≡ true → HasMore types n types
stands types n there = record { same = λ m. one m (nat_eq m n) refl }
  where
    one : (m : ℕ) (e : Bool) → nat_eq m n ≡ e → among types m ≡ (among types m || nat_eq m n)
    one m true e = let P : ℕ → Type 0 = λ k. among types k ≡ (among types k || nat_eq k n) in
        subst P (sym (eqb-true m n e)) (there ∙ sym (ap (λ b. b || nat_eq n n) there))
    one m false e = sym (ap (λ b. among types m || b) e ∙ or_false (among types m))

-- what is gathered behind others
abbrev Gathered : List ℕ → List ℕ → Type 0
Gathered types numbers = fold with_type types numbers ≡ types ++ filter (λ m. not (among types m)) (firsts numbers)

gathered_one : (types : List ℕ) (n : ℕ) (numbers : List ℕ) (e : Bool) → among types n ≡ e
    → ((new : List ℕ) → Gathered new numbers) → Gathered types (n ∷ numbers)
gathered_one types n numbers true e ih = rw e (ih types
    ∙ ap (λ r. types ++ r) (dropped types types n (firsts numbers) (stands types n e)))
gathered_one types n numbers false e ih = rw e (ih (types ++ n ∷ [])
    ∙ append_assoc types (n ∷ []) (filter (λ m. not (among (types ++ n ∷ []) m)) (firsts numbers))
    ∙ ap (λ r. types ++ n ∷ r) (dropped types (types ++ n ∷ []) n (firsts numbers) (record { same = among_more types n })))

gathered : (types numbers : List ℕ) → Gathered types numbers
gathered types [] = sym (append-nil types)
gathered types (n ∷ numbers) = gathered_one types n numbers (among types n) refl (λ new. gathered new numbers)

all_new : (numbers : List ℕ) → filter (λ m. not (among [] m)) numbers ≡ numbers
all_new [] = refl
all_new (n ∷ numbers) = ap (λ r. n ∷ r) (all_new numbers)

types_one : (types : List ℕ) (o : Option ℕ) (words : List (List ℕ))
    → ((new : List ℕ) → fold with_word new words ≡ fold with_type new (filter_map payload_type words))
    → fold with_word (option_map_or (with_type types) o types) words
    ≡ fold with_type types (cons_option o (filter_map payload_type words))
types_one types None words ih = ih types
types_one types (Some n) words ih = ih (with_type types n)

types_of_words : (types : List ℕ) (words : List (List ℕ))
    → fold with_word types words ≡ fold with_type types (filter_map payload_type words)
types_of_words types [] = refl
types_of_words types (word ∷ words) = types_one types (payload_type word) words (λ new. types_of_words new words)

-- the payload types of words, each where it stands first
pub first_types : (words : List (List ℕ)) → fold with_word [] words ≡ firsts (filter_map payload_type words)
first_types words = types_of_words [] words ∙ gathered [] (filter_map payload_type words)
    ∙ all_new (firsts (filter_map payload_type words))
