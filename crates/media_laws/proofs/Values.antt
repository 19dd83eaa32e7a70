-- The values that are printed: each is one that its parameter may have.
use Rattle.std.proofs.Common.{◌≡◌, ℕ, ◌<◌, ◌≤◌, ◌^◌, Bool, true, false, cond, ◌&&◌, nat_eq, List, [], ◌∷◌, map, filter, refl, ap, ◌∙◌, arith, subst, le-leb, option_map, Option, Some, None, IfSome, codes, decimal}
use Rattle.std.specs.List.{AllByRecursion, list_all}
use Rattle.amr_frame.specs.declared.codec.Codec.{Codec}
use Rattle.amr_frame.specs.declared.codec.Codec.TheVariants.{Amr, AmrWb}
use Rattle.media_laws.proofs.Numbers.{AreShort, IsValue, items_printed, list_value, number_printed, number_value}
use Rattle.spec_media.specs.Params.{AreParameters, Parameters, Range, Modes, Row, Values, is_allowed, is_in, is_mode_number, rows}
use Rattle.spec_media.specs.Pieces.{number_in}
use Rattle.spec_media.specs.Printing.{mode_list, on, other_than_1, printed_value}
use Rattle.amr_frame.specs.Tables.{is_mode}
use Rattle.spec_modes.specs.ModeSets.{IsModeSet, all_modes, has}

-- a mode of the codec, with as few digits as a number may have
abbrev IsShortMode : Codec → ℕ → Type 0
IsShortMode codec m = (is_mode codec m ≡ true) × (m < 2 ^ 16)

filtered : {X : Type 0} (P : X → Type 0) (test : X → Bool) (xs : List X) → AllByRecursion P xs → AllByRecursion P (filter test xs)
filtered P test [] h = tt
filtered {X} P test (x ∷ xs) h = by (test x) (filtered P test xs h.1)
  where
    by : (t : Bool) → AllByRecursion P (filter test xs) → AllByRecursion P (cond t (x ∷ filter test xs) (filter test xs))
    by true k = (h.0, k)
    by false k = k

all_are_modes : (codec : Codec) → AllByRecursion (IsShortMode codec) (all_modes codec)
all_are_modes Amr = ((refl, omega arith), ((refl, omega arith), ((refl, omega arith), ((refl, omega arith), ((refl, omega arith), ((refl, omega arith), ((refl, omega arith), ((refl, omega arith), tt))))))))
all_are_modes AmrWb = ((refl, omega arith), ((refl, omega arith), ((refl, omega arith), ((refl, omega arith), ((refl, omega arith), ((refl, omega arith), ((refl, omega arith), ((refl, omega arith), ((refl, omega arith), tt)))))))))

modes_of_set : (codec : Codec) (ms : List ℕ) → IsModeSet codec ms → AllByRecursion (IsShortMode codec) ms
modes_of_set codec ms k = subst (AllByRecursion (IsShortMode codec)) k.rising (filtered (IsShortMode codec) (has ms) (all_modes codec) (all_are_modes codec))

short : (codec : Codec) (ms : List ℕ) → AllByRecursion (IsShortMode codec) ms → AreShort ms
short codec [] h = tt
short codec (m ∷ ms) h = (h.0.1, short codec ms h.1)

pub short_modes : (codec : Codec) (ms : List ℕ) → IsModeSet codec ms → AreShort ms
short_modes codec ms k = short codec ms (modes_of_set codec ms k)

each_allowed : (codec : Codec) (ms : List ℕ) → AllByRecursion (IsShortMode codec) ms → list_all (λ item. is_mode_number codec (number_in 5 item)) (map decimal ms) ≡ true
each_allowed codec [] h = refl
each_allowed codec (m ∷ ms) h = λ i. (ap (is_mode_number codec) (number_printed m h.0.1) ∙ h.0.0) i && each_allowed codec ms h.1 i

-- a value that is printed, and that its row allows
pub record IsAllowed (codec : Codec) (values : Values) (text : List ℕ) : Type 0 where
  pub value : IsValue text
  pub allowed : is_allowed codec values text ≡ true

pub modes_allowed : (codec : Codec) (ms : List ℕ) → IsModeSet codec ms → IsAllowed codec Modes (mode_list ms)
modes_allowed codec ms k = record {
  value = list_value ms (short_modes codec ms k);
  allowed = ap (list_all (λ item. is_mode_number codec (number_in 5 item))) (items_printed ms k.some (short_modes codec ms k)) ∙ each_allowed codec ms (modes_of_set codec ms k);
}

pub number_allowed : (codec : Codec) (least greatest n : ℕ) → n < 2 ^ 16 → least ≤ n → n ≤ greatest → IsAllowed codec (Range least greatest) (decimal n)
number_allowed codec least greatest n h low high = record {
  value = number_value n h;
  allowed = ap (is_in least greatest) (number_printed n h) ∙ (λ i. le-leb least n low i && le-leb n greatest high i);
}

-- each value that is printed is allowed, for a row of these values
abbrev pub AllowsAll : Codec → Values → Option (List ℕ) → Type 0
AllowsAll codec values o = (text : List ℕ) → o ≡ Some text → IsAllowed codec values text

one_allowed : (codec : Codec) → IsAllowed codec (Range 0 1) (codes "1")
one_allowed codec = record { value = record { ink = (omega arith, tt); whole = (refl, tt) }; allowed = refl }

flag_allowed : (codec : Codec) (flag : Bool) → AllowsAll codec (Range 0 1) (on flag)
flag_allowed codec true text e = subst (IsAllowed codec (Range 0 1)) (cc e) (one_allowed codec)
flag_allowed codec false text e = absurd (cc e)

two_allowed : (codec : Codec) (n : ℕ) → 1 ≤ n → n ≤ 2 → AllowsAll codec (Range 1 2) (other_than_1 n)
two_allowed codec n low high = by (nat_eq n 1)
  where
    by : (t : Bool) → AllowsAll codec (Range 1 2) (cond t None (Some (decimal n)))
    by true text e = absurd (cc e)
    by false text e = subst (IsAllowed codec (Range 1 2)) (cc e) (number_allowed codec 1 2 n (omega arith) low high)

groups_allowed : (codec : Codec) (o : Option ℕ) → IfSome o (λ n. (1 ≤ n) × (n < 2 ^ 16)) → AllowsAll codec (Range 1 65535) (option_map decimal o)
groups_allowed codec None h text e = absurd (cc e)
groups_allowed codec (Some n) h text e = subst (IsAllowed codec (Range 1 65535)) (cc e) (number_allowed codec 1 65535 n h.1 h.0 (omega (arith, h.1)))

red_allowed : (codec : Codec) (o : Option ℕ) → IfSome o (λ n. n < 2 ^ 16) → AllowsAll codec (Range 0 65535) (option_map decimal o)
red_allowed codec None h text e = absurd (cc e)
red_allowed codec (Some n) h text e = subst (IsAllowed codec (Range 0 65535)) (cc e) (number_allowed codec 0 65535 n h (omega arith) (omega (arith, h)))

set_allowed : (codec : Codec) (o : Option (List ℕ)) → IfSome o (IsModeSet codec) → AllowsAll codec Modes (option_map mode_list o)
set_allowed codec None h text e = absurd (cc e)
set_allowed codec (Some ms) h text e = subst (IsAllowed codec Modes) (cc e) (modes_allowed codec ms h)

-- the same of a row of the table
abbrev pub AllowsPrinted : Codec → Parameters → Row → Type 0
AllowsPrinted codec p r = AllowsAll codec r.values (printed_value p r.param)

pub all_allowed : (codec : Codec) (p : Parameters) → AreParameters codec p → AllByRecursion (AllowsPrinted codec p) rows
all_allowed codec p k = (
  flag_allowed codec p.octet_aligned,
  (
    set_allowed codec p.modes k.modes,
    (
      two_allowed codec p.period k.period.0 k.period.1,
      (
        two_allowed codec p.capability k.capability.0 k.capability.1,
        (
          flag_allowed codec p.neighbor,
          (
            flag_allowed codec p.crc,
            (
              flag_allowed codec p.sorting,
              (
                groups_allowed codec p.interleaving k.interleaving,
                (
                  red_allowed codec p.max_red k.max_red,
                  tt,
                ),
              ),
            ),
          ),
        ),
      ),
    ),
  ),
)
