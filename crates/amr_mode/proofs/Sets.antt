-- Sets of modes as bits.
use Rattle.std.proofs.Common.{◌≡◌, ℕ, zero, suc, ◌+◌, ◌-◌, ◌/◌, ◌%◌, ◌^◌, ◌<◌, ◌≤◌, ◌⊎◌, inl, inr, min, max, Bool, true, false, cond, ◌&&◌, ◌||◌, nat_eq, nat_le, List, [], ◌∷◌, ◌++◌, length, filter, fold, refl, ap, ◌∙◌, sym, arith, eqb-true, eq-eqb, ne_eqb, le-leb, w16}
use Rattle.std.specs.Cmp.{both_ways}
use Rattle.std.specs.Int.{bit_at, trailing_zeros}
use Rattle.std.specs.List.{AllByRecursion, range_with_len}
use Rattle.std.proofs.lemmas.Bool.{cases_lt}
use Rattle.std.proofs.lemmas.Bool.Decides.{eqb_tells}
use Rattle.std.proofs.lemmas.List.Elements.{filter-append}
use Rattle.std.proofs.lemmas.Nat.Bits.{bit_at-lt, bit_at-trailing_zeros, bit_at_above, bit_at_and, bit_at_cat_low, same_from_bits_below, shr_and_one}
use Rattle.std.proofs.lemmas.Nat.{and_le_l, div-add-mod'}
use Rattle.std.proofs.Math.Nat.{mod-le, mod-lt}
use lib.Bits.{bit_and}
use Rattle.amr_frame.specs.Tables.{is_mode, mode_bits}
use Rattle.amr_mode.specs.Nearest.{up_to}
use Rattle.spec_modes.specs.Desk.{greatest_or}
use Rattle.amr_bits.proofs.Lists.{all_kept, all_range}
use Rattle.amr_frame.specs.declared.codec.Codec.{Codec}
use Rattle.amr_frame.specs.declared.codec.Codec.TheVariants.{Amr, AmrWb}
use Rattle.amr_mode.specs.Members.{members}
use Rattle.amr_mode.specs.declared.mode_set.ModeSet.{ModeSet}
use Rattle.amr_mode.proofs.Nearest.{all_of, has_kept, of_all}
use Rattle.spec_modes.specs.ModeSets.{IsModeSet, all_modes, greatest, has, modes_among, modes_in, within}

-- whether a mode's bit is set
abbrev pub is_set : ℕ → ℕ → Bool
is_set bits m = nat_eq (bits / 2 ^ m % 2) 1

in_range : (s n m : ℕ) → s ≤ m → m < s + n → has (range_with_len s n) m ≡ true
in_range s zero m l u = absurd (omega arith)
in_range s (suc n) m l u = elim (eqb_tells s m) [
  | inl t ↦ ap (λ b. b || has (range_with_len (s + 1) n) m) t.0
  | inr t ↦ ap (λ b. b || has (range_with_len (s + 1) n) m) t.0 ∙ in_range (s + 1) n m (omega (arith, t.1)) (omega arith)
]

past_range : (s n m : ℕ) → s + n ≤ m → has (range_with_len s n) m ≡ false
past_range s zero m l = refl
past_range s (suc n) m l = ap (λ b. b || has (range_with_len (s + 1) n) m) (ne_eqb s m (λ e. omega arith)) ∙ past_range (s + 1) n m (omega arith)

and_true : (b : Bool) → (b && true) ≡ b
and_true true = refl
and_true false = refl

and_false : (b : Bool) → (b && false) ≡ false
and_false true = refl
and_false false = refl

-- a mode is in the set of some bits where its bit is set
pub has_bit : (bits m : ℕ) → m < 16 → has (modes_in bits) m ≡ is_set bits m
has_bit bits m l = has_kept (is_set bits) (range_with_len 0 16) m ∙ ap (λ b. is_set bits m && b) (in_range 0 16 m (omega arith) l) ∙ and_true (is_set bits m)

pub has_no_bit : (bits m : ℕ) → 16 ≤ m → has (modes_in bits) m ≡ false
has_no_bit bits m l = has_kept (is_set bits) (range_with_len 0 16) m ∙ ap (λ b. is_set bits m && b) (past_range 0 16 m l) ∙ and_false (is_set bits m)

pub member : (set : ModeSet) (m : ℕ) → m < 16 → has (members set) m ≡ is_set set.bits m
unfolding members
member set m l = has_bit set.bits m l

pub no_member : (set : ModeSet) (m : ℕ) → 16 ≤ m → has (members set) m ≡ false
unfolding members
no_member set m l = has_no_bit set.bits m l

-- the test of the code
pub tested : (set : ModeSet) (m : ℕ) → m < 16 → nat_eq (bit_and (set.bits / 2 ^ m) 1) 1 ≡ has (members set) m
tested set m l = ap (λ n. nat_eq n 1) (shr_and_one set.bits m) ∙ sym (member set m l)

module _ {X : Type 0} where
  pub filter_same : (f g : X → Bool) (xs : List X) → AllByRecursion (λ x. f x ≡ g x) xs → filter f xs ≡ filter g xs
  filter_same f g [] h = refl
  filter_same f g (x ∷ xs) h = λ i. cond (h.0 i) (x ∷ filter_same f g xs h.1 i) (filter_same f g xs h.1 i)

  pub filter_none : (f : X → Bool) (xs : List X) → AllByRecursion (λ x. f x ≡ false) xs → filter f xs ≡ []
  filter_none f [] h = refl
  filter_none f (x ∷ xs) h = ap (λ b. cond b (x ∷ filter f xs) (filter f xs)) h.0 ∙ filter_none f xs h.1

  pub filter_all : (f : X → Bool) (xs : List X) → AllByRecursion (λ x. f x ≡ true) xs → filter f xs ≡ xs
  filter_all f [] h = refl
  filter_all f (x ∷ xs) h = ap (λ b. cond b (x ∷ filter f xs) (filter f xs)) h.0 ∙ ap (λ r. x ∷ r) (filter_all f xs h.1)

-- how many modes a codec has
abbrev pub count : Codec → ℕ
count Amr = 8
count AmrWb = 9

pub all_are : (codec : Codec) → all_modes codec ≡ range_with_len 0 (count codec)
all_are Amr = refl
all_are AmrWb = refl

ranges : (codec : Codec) → range_with_len 0 16 ≡ range_with_len 0 (count codec) ++ range_with_len (count codec) (16 - count codec)
ranges Amr = refl
ranges AmrWb = refl

few : (codec : Codec) → count codec ≤ 16
few Amr = omega arith
few AmrWb = omega arith

-- a list of numbers is the set of some bits, where no bit above the codec's modes is set
pub set_is : (codec : Codec) (bits : ℕ) (q : ℕ → Bool) → ((m : ℕ) → m < count codec → q m ≡ is_set bits m) → ((m : ℕ) → count codec ≤ m → m < 16 → is_set bits m ≡ false)
    → filter q (all_modes codec) ≡ modes_in bits
set_is codec bits q h none =
    ap (filter q) (all_are codec)
    ∙ filter_same q (is_set bits) (range_with_len 0 (count codec)) (all_range (λ m. q m ≡ is_set bits m) 0 (count codec) (λ m l u. h m (omega arith)))
    ∙ sym (ap (filter (is_set bits)) (ranges codec)
    ∙ filter-append (is_set bits) (range_with_len 0 (count codec)) (range_with_len (count codec) (16 - count codec))
    ∙ ap (λ r. filter (is_set bits) (range_with_len 0 (count codec)) ++ r) (filter_none (is_set bits) (range_with_len (count codec) (16 - count codec)) (all_range (λ m. is_set bits m ≡ false) (count codec) (16 - count codec) (λ m l u. none m l (omega (arith, few codec)))))
    ∙ append_nothing (filter (is_set bits) (range_with_len 0 (count codec))))
  where
    append_nothing : (xs : List ℕ) → xs ++ [] ≡ xs
    append_nothing [] = refl
    append_nothing (x ∷ xs) = ap (λ r. x ∷ r) (append_nothing xs)

unset : (bits m : ℕ) → bits / 2 ^ m % 2 ≡ 0 → is_set bits m ≡ false
unset bits m e = ap (λ n. nat_eq n 1) e

pub nonempty : (xs : List ℕ) (m : ℕ) → has xs m ≡ true → 0 < length xs
nonempty [] m e = absurd cc
nonempty (x ∷ xs) m e = omega arith

-- bits within those of the codec's modes are a set
pub are_set : (codec : Codec) (bits : ℕ) → 0 < bits → bits < 2 ^ count codec → IsModeSet codec (modes_in bits)
are_set codec bits low high = record {
  some = nonempty (modes_in bits) lowest.0 (has_bit bits lowest.0 lowest.1 ∙ lowest.2);
  rising = set_is codec bits (has (modes_in bits)) (λ m l. has_bit bits m (omega (arith, few codec))) (λ m l u. unset bits m (bit_at_above bits (count codec) m high l));
}
  where
    narrow : (c : Codec) → bits < 2 ^ count c → bits < 2 ^ 16
    narrow Amr h = omega arith
    narrow AmrWb h = omega arith

    lowest : (m : ℕ) × (m < 16) × (is_set bits m ≡ true)
    lowest = let t = bit_at-trailing_zeros w16 bits low (narrow codec high) in (trailing_zeros w16 bits, t.0, ap (λ n. nat_eq n 1) t.1)

bit_at_low : (n c m : ℕ) → m < c → bit_at n m ≡ bit_at (n % 2 ^ c) m
bit_at_low n c m l = ap (λ k. bit_at k m) (sym (div-add-mod' n (2 ^ c))) ∙ bit_at_cat_low (n / 2 ^ c) c (n % 2 ^ c) m l

-- a set has a bit, and none above the codec's modes
no_bits : (bits : ℕ) → bits ≡ 0 → length (modes_in bits) ≡ 0
no_bits bits e = ap (λ b. length (modes_in b)) e

pub some_bit : (codec : Codec) (bits : ℕ) → IsModeSet codec (modes_in bits) → bits ≡ 0 → ⊥
some_bit codec bits k e = omega (arith, k.some, no_bits bits e)

high_unset : (codec : Codec) (bits m : ℕ) → IsModeSet codec (modes_in bits) → count codec ≤ m → m < 16 → is_set bits m ≡ false
high_unset codec bits m k l u =
    sym (has_bit bits m u) ∙ sym (ap (λ xs. has xs m) k.rising) ∙ has_kept (has (modes_in bits)) (all_modes codec) m
    ∙ ap (λ b. has (modes_in bits) m && b) (ap (λ xs. has xs m) (all_are codec) ∙ past_range 0 (count codec) m (omega arith)) ∙ and_false (has (modes_in bits) m)

unset_is : (bits m : ℕ) → is_set bits m ≡ false → bits / 2 ^ m % 2 ≡ 0
unset_is bits m e = elim (eqb_tells (bits / 2 ^ m % 2) 1) [ inl t ↦ absurd cc | inr t ↦ omega (arith, t.1, bit_at-lt bits m) ]

pub few_bits : (codec : Codec) (bits : ℕ) → bits < 2 ^ 16 → IsModeSet codec (modes_in bits) → bits < 2 ^ count codec
few_bits codec bits fits k = omega (arith, same, mod-lt bits (positive codec))
  where
    positive : (c : Codec) → 0 < 2 ^ count c
    positive Amr = omega arith
    positive AmrWb = omega arith

    low : (m : ℕ) → m < 16 → bit_at bits m ≡ bit_at (bits % 2 ^ count codec) m
    low m u = elim (cases_lt m (count codec)) [
      | inl l ↦ bit_at_low bits (count codec) m l
      | inr g ↦ unset_is bits m (high_unset codec bits m k g u) ∙ sym (bit_at_above (bits % 2 ^ count codec) (count codec) m (mod-lt bits (positive codec)) g)
    ]

    same : bits ≡ bits % 2 ^ count codec
    same = same_from_bits_below 16 bits (bits % 2 ^ count codec) fits (omega (arith, mod-le bits (2 ^ count codec))) low

-- what the code tests, for `of`
pub set_of : (codec : Codec) (set : ModeSet) → 0 < set.bits → set.bits ≤ mode_bits codec → IsModeSet codec (members set)
unfolding members
set_of Amr set low high = are_set Amr set.bits low (omega arith)
set_of AmrWb set low high = are_set AmrWb set.bits low (omega arith)

pub no_set_of_none : (codec : Codec) (set : ModeSet) → set.bits ≡ 0 → IsModeSet codec (members set) → ⊥
unfolding members
no_set_of_none codec set e k = some_bit codec set.bits k e

pub no_set_above : (codec : Codec) (set : ModeSet) → set.bits < 2 ^ 16 → mode_bits codec < set.bits → IsModeSet codec (members set) → ⊥
unfolding members
no_set_above Amr set fits high k = let few = few_bits Amr set.bits fits k in omega arith
no_set_above AmrWb set fits high k = let few = few_bits AmrWb set.bits fits k in omega arith

-- all modes
pub all_amr : members (record { bits = 255 }) ≡ all_modes Amr
unfolding members
all_amr = refl

pub all_wide : members (record { bits = 511 }) ≡ all_modes AmrWb
unfolding members
all_wide = refl

-- the tests of the code
pub within_is : (a b : ModeSet) → a.bits < 2 ^ 16 → b.bits < 2 ^ 16 → nat_eq (bit_and a.bits b.bits) a.bits ≡ within (members a) (members b)
within_is a b fa fb = both_ways (nat_eq (bit_and a.bits b.bits) a.bits) (within (members a) (members b)) to from
  where
    bit_of : (s : ModeSet) (k : ℕ) → k < 16 → has (members s) k ≡ true → bit_at s.bits k ≡ 1
    bit_of s k l e = eqb-true (s.bits / 2 ^ k % 2) 1 (sym (member s k l) ∙ e)

    short : (s : ModeSet) (k : ℕ) → has (members s) k ≡ true → k < 16
    short s k e = elim (cases_lt k 16) [ inl l ↦ l | inr g ↦ absurd (cc (no_member s k g)) ]

    to : nat_eq (bit_and a.bits b.bits) a.bits ≡ true → within (members a) (members b) ≡ true
    to e = all_of (has (members b)) (members a) (λ k h. let l = short a k h in
        let one : min (bit_at a.bits k) (bit_at b.bits k) ≡ bit_at a.bits k = sym (bit_at_and a.bits b.bits k) ∙ ap (λ n. bit_at n k) (eqb-true (bit_and a.bits b.bits) a.bits e) in
        let own : bit_at a.bits k ≡ 1 = bit_of a k l h in
        let other : bit_at b.bits k ≡ 1 = omega (arith, bit_at-lt b.bits k) in
        member b k l ∙ eq-eqb (bit_at b.bits k) 1 other)

    bits_in : within (members a) (members b) ≡ true → (k : ℕ) → k < 16 → bit_at (bit_and a.bits b.bits) k ≡ bit_at a.bits k
    bits_in e k l = elim (eqb_tells (bit_at a.bits k) 1) [
      | inl t ↦ let other : bit_at b.bits k ≡ 1 = bit_of b k l (of_all (has (members b)) (members a) k e (member a k l ∙ t.0)) in omega (arith, bit_at_and a.bits b.bits k, t.1)
      | inr t ↦ omega (arith, bit_at_and a.bits b.bits k, t.1, bit_at-lt a.bits k)
    ]

    from : within (members a) (members b) ≡ true → nat_eq (bit_and a.bits b.bits) a.bits ≡ true
    from e = eq-eqb (bit_and a.bits b.bits) a.bits (same_from_bits_below 16 (bit_and a.bits b.bits) a.bits (omega (arith, and_le_l a.bits b.bits)) fa (bits_in e))

few_members : (s : ModeSet) → AllByRecursion (λ m. nat_le m 15 ≡ true) (members s)
unfolding members
few_members s = all_kept (is_set s.bits) (λ m. nat_le m 15 ≡ true) (range_with_len 0 16) (all_range (λ m. is_set s.bits m ≡ true → nat_le m 15 ≡ true) 0 16 (λ m l u e. le-leb m 15 (omega arith)))

-- the greatest mode, by the search from 15 down
pub greatest_is : (set : ModeSet) → up_to (members set) 15 0 ≡ greatest (members set)
greatest_is set = ap (greatest_or 0) (filter_all (λ m. nat_le m 15) (members set) (few_members set)) ∙ from_first (members set)
  where
    from_first : (xs : List ℕ) → greatest_or 0 xs ≡ greatest xs
    from_first [] = refl
    from_first (x ∷ xs) = ap (λ n. fold max n xs) (omega arith)

true_or_false : (b : Bool) → (b ≡ true) ⊎ (b ≡ false)
true_or_false true = inl refl
true_or_false false = inr refl

-- modes of the codec that a list has are those that the list names
high_mode : (codec : Codec) (m : ℕ) → count codec ≤ m → m < 16 → is_mode codec m ≡ false
high_mode codec m l u =
    sym (and_true (is_mode codec m)) ∙ sym (ap (λ b. is_mode codec m && b) (in_range 0 16 m (omega arith) u)) ∙ sym (has_kept (is_mode codec) (range_with_len 0 16) m)
    ∙ ap (λ xs. has xs m) (all_are codec) ∙ past_range 0 (count codec) m (omega arith)

pub members_are : (codec : Codec) (set : ModeSet) (ns : List ℕ) → ((k : ℕ) → has (members set) k ≡ has ns k)
    → ((k : ℕ) → has ns k ≡ true → is_mode codec k ≡ true) → members set ≡ modes_among codec ns
unfolding members
members_are codec set ns h modes = sym (set_is codec set.bits (has ns) (λ m l. sym (h m) ∙ member set m (omega (arith, few codec))) above)
  where
    above : (m : ℕ) → count codec ≤ m → m < 16 → is_set set.bits m ≡ false
    above m l u = elim (true_or_false (has ns m)) [
      | inl t ↦ absurd (cc (modes m t, high_mode codec m l u))
      | inr f ↦ sym (member set m u) ∙ h m ∙ f
    ]

-- a list of modes of the codec gives a set
pub members_set : (codec : Codec) (set : ModeSet) (m : ℕ) → has (members set) m ≡ true → ((k : ℕ) → has (members set) k ≡ true → is_mode codec k ≡ true) → IsModeSet codec (members set)
members_set codec set m e modes = record { some = nonempty (members set) m e; rising = sym (members_are codec set (members set) (λ k. refl) modes) }

-- sets with the same modes have the same bits
same_bit : (x y : ℕ) → x < 2 → y < 2 → nat_eq x 1 ≡ nat_eq y 1 → x ≡ y
same_bit x y l u e = elim (eqb_tells x 1) [
  | inl t ↦ t.1 ∙ sym (eqb-true y 1 (sym e ∙ t.0))
  | inr t ↦ elim (eqb_tells y 1) [
    | inl s ↦ absurd (cc (e, t.0, s.0))
    | inr s ↦ omega (arith, t.1, s.1)
  ]
]

pub same_members : (a b : ModeSet) → a.bits < 2 ^ 16 → b.bits < 2 ^ 16 → members a ≡ members b → a ≡ b
same_members a b fa fb e = λ i. record { bits = same_from_bits_below 16 a.bits b.bits fa fb bits i }
  where
    bits : (m : ℕ) → m < 16 → bit_at a.bits m ≡ bit_at b.bits m
    bits m l = same_bit (bit_at a.bits m) (bit_at b.bits m) (bit_at-lt a.bits m) (bit_at-lt b.bits m) (sym (member a m l) ∙ ap (λ ms. has ms m) e ∙ member b m l)
