-- Octets compare as their bits do.
use Rattle.std.proofs.Common.{◌≡◌, ℕ, suc, ◌+◌, ◌-◌, ◌*◌, ◌/◌, ◌^◌, ◌%◌, ◌<◌, ◌≤◌, Bool, nat_eq, true, false, cond, List, [], ◌∷◌, ◌++◌, length, take, drop, get_or, refl, sym, ap, ◌∙◌, arith, inl, inr}
use Rattle.std.proofs.lemmas.Bool.{cases_lt}
use Rattle.std.proofs.lemmas.List.{get_or-take, length-take, length-take-le, take-append-drop}
use Rattle.std.specs.declared.cmp.Ordering.{Ordering}
use Rattle.std.specs.declared.cmp.Ordering.TheVariants.{Less, Equal, Greater}
use Rattle.std.specs.Ordering.{nat_cmp, ordering_then}
use Rattle.std.specs.Cmp.{nat_cmp_is, tied_itself}
use Rattle.std.specs.Cmp.Lexicographic.{slice_cmp, nat_list_cmp_total}
use Rattle.amr_bits.specs.Bits.{number, bit_at, bits_at}
use Rattle.amr_bits.proofs.Numbers.{number-cons, number-lt}
use Rattle.amr_bits.proofs.Runs.{run-split, run-drop, run-same, run-append, length-run, bit_at-past}
use Rattle.amr_bits.proofs.Places.{number_at-octet}
use Rattle.amr_merge.specs.Numbers.{numbers}

-- how bits compare
abbrev pub by_bits : List Bool → List Bool → Ordering
by_bits a b = slice_cmp nat_cmp (numbers a) (numbers b)

pub lower : (x y : ℕ) → x < y → nat_cmp x y ≡ Less
lower x y h = sym (nat_cmp_is x y Less h)

pub higher : (x y : ℕ) → y < x → nat_cmp x y ≡ Greater
higher x y h = sym (nat_cmp_is x y Greater h)

same : (x y : ℕ) → x ≡ y → nat_cmp x y ≡ Equal
same x y h = sym (nat_cmp_is x y Equal h)

shifted : (p x y : ℕ) → nat_cmp (p + x) (p + y) ≡ nat_cmp x y
shifted p x y =
    elim (cases_lt x y) [
      | inl l ↦ lower (p + x) (p + y) (omega arith) ∙ sym (lower x y l)
      | inr ge ↦ elim (cases_lt y x) [
        | inl l ↦ higher (p + x) (p + y) (omega arith) ∙ sym (higher x y l)
        | inr le ↦ same (p + x) (p + y) (omega arith) ∙ sym (same x y (omega arith))
      ]
    ]

-- as many bits compare as the numbers that they spell
pub bits_as_numbers : (a b : List Bool) → length a ≡ length b → by_bits a b ≡ nat_cmp (number a) (number b)
bits_as_numbers [] [] e = refl
bits_as_numbers [] (y ∷ b) e = absurd (omega arith)
bits_as_numbers (x ∷ a) [] e = absurd (omega arith)
bits_as_numbers (x ∷ a) (y ∷ b) e =
    let size : length a ≡ length b = omega arith in
    let rest = bits_as_numbers a b size in
    let p : ℕ = 2 ^ length a in
    let na : number (x ∷ a) ≡ cond x 1 0 * p + number a = number-cons x a in
    let nb : number (y ∷ b) ≡ cond y 1 0 * p + number b = number-cons y b ∙ ap (λ k. cond y 1 0 * 2 ^ k + number b) (sym size) in
    let la : number a < p = number-lt a in
    let lb : number b < p = rw size (number-lt b) in
    rw (na, nb) (heads x y p (number a) (number b) la lb (by_bits a b) rest)
  where
    heads : (x y : Bool) (p n m : ℕ) → n < p → m < p → (o : Ordering) → o ≡ nat_cmp n m → ordering_then (nat_cmp (cond x 1 0) (cond y 1 0)) o ≡ nat_cmp (cond x 1 0 * p + n) (cond y 1 0 * p + m)
    heads true true p n m h k o e = e ∙ sym (shifted (1 * p) n m)
    heads false false p n m h k o e = e ∙ sym (shifted (0 * p) n m)
    heads true false p n m h k o e = sym (higher (1 * p + n) (0 * p + m) (omega arith))
    heads false true p n m h k o e = sym (lower (0 * p + n) (1 * p + m) (omega arith))

pub then_assoc : (a b c : Ordering) → ordering_then (ordering_then a b) c ≡ ordering_then a (ordering_then b c)
then_assoc Less b c = refl
then_assoc Equal b c = refl
then_assoc Greater b c = refl

then_equal : (a : Ordering) → ordering_then a Equal ≡ a
then_equal Less = refl
then_equal Equal = refl
then_equal Greater = refl

-- the front decides, and then the rest
pub by_bits-append : (a b c d : List Bool) → length a ≡ length b → by_bits (a ++ c) (b ++ d) ≡ ordering_then (by_bits a b) (by_bits c d)
by_bits-append [] [] c d e = refl
by_bits-append [] (y ∷ b) c d e = absurd (omega arith)
by_bits-append (x ∷ a) [] c d e = absurd (omega arith)
by_bits-append (x ∷ a) (y ∷ b) c d e =
    let o = nat_cmp (cond x 1 0) (cond y 1 0) in
    ap (ordering_then o) (by_bits-append a b c d (omega arith)) ∙ sym (then_assoc o (by_bits a b) (by_bits c d))

octet_of_bits : (x : ℕ) (xs : List ℕ) → x < 256 → number (bits_at (x ∷ xs) 0 8) ≡ x
octet_of_bits x xs small = number_at-octet (x ∷ xs) 0 small

split_front : (x : ℕ) (xs : List ℕ) → bits_at (x ∷ xs) 0 (8 * length (x ∷ xs)) ≡ bits_at (x ∷ xs) 0 8 ++ bits_at xs 0 (8 * length xs)
split_front x xs =
    let size : 8 * length (x ∷ xs) ≡ 8 + 8 * length xs = omega arith in
    ap (bits_at (x ∷ xs) 0) size ∙ run-split (x ∷ xs) 0 8 (8 * length xs) 8 refl
    ∙ ap (λ bs. bits_at (x ∷ xs) 0 8 ++ bs) (sym (run-drop (x ∷ xs) 1 0 8 (8 * length xs) refl))

-- as many octets compare as all their bits
pub octets_as_bits : (xs ys : List ℕ) → length xs ≡ length ys → ((k : ℕ) → get_or xs k 0 < 256) → ((k : ℕ) → get_or ys k 0 < 256) →
    slice_cmp nat_cmp xs ys ≡ by_bits (bits_at xs 0 (8 * length xs)) (bits_at ys 0 (8 * length ys))
octets_as_bits [] [] e h k = refl
octets_as_bits [] (y ∷ ys) e h k = absurd (omega arith)
octets_as_bits (x ∷ xs) [] e h k = absurd (omega arith)
octets_as_bits (x ∷ xs) (y ∷ ys) e h k =
    let a = bits_at (x ∷ xs) 0 8 in
    let b = bits_at (y ∷ ys) 0 8 in
    let one : by_bits a b ≡ nat_cmp x y =
    bits_as_numbers a b refl ∙ ap (λ n. nat_cmp n (number b)) (octet_of_bits x xs (h 0)) ∙ ap (nat_cmp x) (octet_of_bits y ys (k 0)) in
    let rest = octets_as_bits xs ys (omega arith) (λ i. h (suc i)) (λ i. k (suc i)) in
    sym (ap (λ bs. by_bits bs (bits_at (y ∷ ys) 0 (8 * length (y ∷ ys)))) (split_front x xs)
    ∙ ap (by_bits (a ++ bits_at xs 0 (8 * length xs))) (split_front y ys)
    ∙ by_bits-append a b (bits_at xs 0 (8 * length xs)) (bits_at ys 0 (8 * length ys)) refl
    ∙ ap (λ o. ordering_then o (by_bits (bits_at xs 0 (8 * length xs)) (bits_at ys 0 (8 * length ys)))) one
    ∙ ap (ordering_then (nat_cmp x y)) (sym rest))

-- and as the first bits, where all after them are 0
pub octets_as_front : (xs ys : List ℕ) (len : ℕ) → length xs ≡ length ys → len ≤ 8 * length xs → ((k : ℕ) → get_or xs k 0 < 256) → ((k : ℕ) → get_or ys k 0 < 256) →
    ((k : ℕ) → len ≤ k → bit_at xs k ≡ false) → ((k : ℕ) → len ≤ k → bit_at ys k ≡ false) →
    slice_cmp nat_cmp xs ys ≡ by_bits (bits_at xs 0 len) (bits_at ys 0 len)
octets_as_front xs ys len e fits h k past behind =
    let rest : ℕ = 8 * length xs - len in
    let all : 8 * length xs ≡ len + rest = omega arith in
    let every : 8 * length ys ≡ len + rest = omega arith in
    let tails : bits_at xs len rest ≡ bits_at ys len rest = run-same xs ys len len rest (λ i l. past (len + i) (omega arith) ∙ sym (behind (len + i) (omega arith))) in
    let level : by_bits (bits_at xs len rest) (bits_at ys len rest) ≡ Equal =
    ap (λ bs. by_bits bs (bits_at ys len rest)) tails ∙ tied_itself nat_list_cmp_total (numbers (bits_at ys len rest)) in
    octets_as_bits xs ys e h k
    ∙ ap (λ n. by_bits (bits_at xs 0 n) (bits_at ys 0 (8 * length ys))) all
    ∙ ap (λ n. by_bits (bits_at xs 0 (len + rest)) (bits_at ys 0 n)) every
    ∙ ap (λ bs. by_bits bs (bits_at ys 0 (len + rest))) (run-split xs 0 len rest len (omega arith))
    ∙ ap (by_bits (bits_at xs 0 len ++ bits_at xs len rest)) (run-split ys 0 len rest len (omega arith))
    ∙ by_bits-append (bits_at xs 0 len) (bits_at ys 0 len) (bits_at xs len rest) (bits_at ys len rest) (length-run xs 0 len ∙ sym (length-run ys 0 len))
    ∙ ap (ordering_then (by_bits (bits_at xs 0 len) (bits_at ys 0 len))) level
    ∙ then_equal (by_bits (bits_at xs 0 len) (bits_at ys 0 len))

bit_at-take : (xs : List ℕ) (n k : ℕ) → (bit_at xs k ≡ false) → bit_at (take n xs) k ≡ false
bit_at-take xs n k e =
    elim (cases_lt (k / 8) n) [
      | inl l ↦ ap (λ (x : ℕ). nat_eq (x / 2 ^ (7 - k % 8) % 2) 1) (get_or-take n xs (k / 8) 0 l) ∙ e
      | inr ge ↦ bit_at-past (take n xs) k (let short = length-take n xs in omega arith)
    ]

-- the front octets as the first bits
pub front_as_bits : (xs ys : List ℕ) (n len : ℕ) → n ≤ length xs → n ≤ length ys → len ≤ 8 * n →
    ((k : ℕ) → get_or (take n xs) k 0 < 256) → ((k : ℕ) → get_or (take n ys) k 0 < 256) →
    ((k : ℕ) → len ≤ k → bit_at xs k ≡ false) → ((k : ℕ) → len ≤ k → bit_at ys k ≡ false) →
    slice_cmp nat_cmp (take n xs) (take n ys) ≡ by_bits (bits_at xs 0 len) (bits_at ys 0 len)
front_as_bits xs ys n len within inside fits h k past behind =
    let lx : length (take n xs) ≡ n = length-take-le n xs within in
    let ly : length (take n ys) ≡ n = length-take-le n ys inside in
    octets_as_front (take n xs) (take n ys) len (omega arith) (omega arith) h k (λ i l. bit_at-take xs n i (past i l)) (λ i l. bit_at-take ys n i (behind i l))
    ∙ ap (λ bs. by_bits bs (bits_at (take n ys) 0 len)) (front xs n len within fits)
    ∙ ap (by_bits (bits_at xs 0 len)) (front ys n len inside fits)
  where
    front : (zs : List ℕ) (n len : ℕ) → n ≤ length zs → len ≤ 8 * n → bits_at (take n zs) 0 len ≡ bits_at zs 0 len
    front zs n len within fits =
        let l : length (take n zs) ≡ n = length-take-le n zs within in
        sym (ap (λ ys. bits_at ys 0 len) (sym (take-append-drop n zs)) ∙ run-append (take n zs) (drop n zs) len (omega arith))
