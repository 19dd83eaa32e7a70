-- Sets of modes from lists of numbers.
use Rattle.std.proofs.Common.{◌≡◌, ℕ, ◌*◌, ◌%◌, ◌^◌, ◌<◌, inl, inr, Bool, true, false, ◌&&◌, ◌||◌, nat_eq, List, [], ◌∷◌, ◌++◌, length, map, filter_map, Option, Some, None, sym, refl, ap, ◌∙◌, arith, subst, eq-eqb, ne_eqb, w16, append_assoc, append-nil}
use Rattle.std.specs.Int.{bit_at}
use Rattle.std.specs.Int.RustNames.{bit_or}
use Rattle.std.specs.List.{cons_option, list_all, slice_split}
use Rattle.std.proofs.lemmas.Bool.{and_parts, cases_lt}
use Rattle.std.proofs.lemmas.Bool.Decides.{eqb_tells}
use Rattle.std.proofs.lemmas.Nat.Bits.{bit_at-zero, bit_at_set_other, bit_at_set_same}
use Rattle.std.proofs.lemmas.List.Splits.{length-slice_split}
use Rattle.std.proofs.lemmas.List.{length-map}
use Rattle.amr_frame.specs.declared.codec.Codec.{Codec}
use Rattle.amr_mode.proofs.Sets.{member, members_are, members_set, no_member}
use Rattle.amr_mode.proofs.Nearest.{of_more}
use Rattle.amr_frame.specs.Tables.{is_mode}
use Rattle.amr_mode.specs.Members.{members}
use Rattle.amr_mode.specs.declared.mode_set.ModeSet.{ModeSet}
use Rattle.std.specs.Borrow.{Bor}
use Rattle.media_params.specs.Parts.{parts_in}
use Rattle.media_params.specs.Listed.{HasMore, is_that}
use Rattle.spec_media.specs.Params.{is_mode_number}
use Rattle.spec_media.specs.Pieces.{is_comma, items, number_in, trimmed}
use Rattle.spec_media.specs.Reading.{modes_of}
use Rattle.spec_modes.specs.ModeSets.{IsModeSet, has}

-- a bit more is a mode more
pub mode_more : (set : ModeSet) (mode : ℕ) → mode < 16 → HasMore set (Some mode) (record { bits = bit_or set.bits (1 * 2 ^ mode % 65536) })
mode_more set mode l = record { modes = at }
  where
    new : ModeSet
    new = record { bits = bit_or set.bits (1 * 2 ^ mode % 65536) }

    near : (k : ℕ) → k < 16 → has (members new) k ≡ (nat_eq mode k || has (members set) k)
    near k u = elim (eqb_tells mode k) [
      | inl t ↦ subst (λ m. has (members new) m ≡ (nat_eq mode m || has (members set) m)) t.1
          (member new mode l ∙ eq-eqb (bit_at new.bits mode) 1 (bit_at_set_same w16 set.bits mode l) ∙ sym (ap (λ b. b || has (members set) mode) (eq-eqb mode mode refl)))
      | inr t ↦ member new k u ∙ ap (λ n. nat_eq n 1) (bit_at_set_other w16 set.bits mode l k (λ e. t.1 (sym e))) ∙ sym (member set k u) ∙ sym (ap (λ b. b || has (members set) k) t.0)
    ]

    at : (k : ℕ) → has (members new) k ≡ (nat_eq mode k || has (members set) k)
    at k = elim (cases_lt k 16) [
      | inl u ↦ near k u
      | inr g ↦ no_member new k g ∙ sym (ap (λ b. b || has (members set) k) (ne_eqb mode k (λ e. omega arith)) ∙ no_member set k g)
    ]

-- the numbers among some items
abbrev numbers : List (List ℕ) → List ℕ
numbers done = filter_map (number_in 5) done

swap : (a b c : Bool) → (a || (b || c)) ≡ (b || (a || c))
swap true true c = refl
swap true false c = refl
swap false true c = refl
swap false false c = refl

has_option : (o : Option ℕ) (ns : List ℕ) (k : ℕ) → has (cons_option o ns) k ≡ (is_that o k || has ns k)
has_option None ns k = refl
has_option (Some n) ns k = refl

has_last : (done : List (List ℕ)) (item : List ℕ) (k : ℕ) → has (numbers (done ++ item ∷ [])) k ≡ (is_that (number_in 5 item) k || has (numbers done) k)
has_last [] item k = has_option (number_in 5 item) [] k
has_last (d ∷ done) item k = has_option (number_in 5 d) (numbers (done ++ item ∷ [])) k
    ∙ ap (λ b. is_that (number_in 5 d) k || b) (has_last done item k)
    ∙ swap (is_that (number_in 5 d) k) (is_that (number_in 5 item) k) (has (numbers done) k)
    ∙ ap (λ b. is_that (number_in 5 item) k || b) (sym (has_option (number_in 5 d) (numbers done) k))

abbrev is_item : Codec → List ℕ → Bool
is_item codec item = is_mode_number codec (number_in 5 item)

-- a list of which some items were read, each a mode, and these are left
pub record IsRead (codec : Codec) (text : List ℕ) (set : ModeSet) (left : List (List ℕ)) : Type 0 where
  done : List (List ℕ)
  whole : items text ≡ done ++ map trimmed left
  allowed : list_all (is_item codec) done ≡ true
  modes : (k : ℕ) → has (members set) k ≡ has (numbers done) k

pub none_read : (codec : Codec) (text : List ℕ) (left : List (List ℕ)) → map trimmed left ≡ items text → IsRead codec text (record { bits = 0 }) left
none_read codec text left e = record { done = []; whole = sym e; allowed = refl; modes = λ k. no_modes k }
  where
    no_modes : (k : ℕ) → has (members (record { bits = 0 })) k ≡ false
    no_modes k = elim (cases_lt k 16) [ inl u ↦ member (record { bits = 0 }) k u ∙ ap (λ n. nat_eq n 1) (bit_at-zero k) | inr g ↦ no_member (record { bits = 0 }) k g ]

all_last : (q : List ℕ → Bool) (done : List (List ℕ)) (item : List ℕ) → list_all q done ≡ true → list_all q (done ++ item ∷ []) ≡ q item
all_last q [] item e = right (q item)
  where
    right : (b : Bool) → (b && true) ≡ b
    right true = refl
    right false = refl
all_last q (d ∷ done) item e = let p = and_parts (q d) (list_all q done) e in (λ i. p.0 i && all_last q done item p.1 i)

pub read_more : (codec : Codec) (text item : List ℕ) (set new : ModeSet) (left more : List (List ℕ)) → IsRead codec text set left → left ≡ item ∷ more
    → is_item codec (trimmed item) ≡ true → HasMore set (number_in 5 (trimmed item)) new → IsRead codec text new more
read_more codec text item set new left more r e allowed more_modes = record {
  done = r.done ++ trimmed item ∷ [];
  whole = r.whole ∙ ap (λ l. r.done ++ map trimmed l) e ∙ sym (append_assoc r.done (trimmed item ∷ []) (map trimmed more));
  allowed = all_last (is_item codec) r.done (trimmed item) r.allowed ∙ allowed;
  modes = λ k. more_modes.modes k ∙ ap (λ b. is_that (number_in 5 (trimmed item)) k || b) (r.modes k) ∙ sym (has_last r.done (trimmed item) k);
}

-- an item that is no mode
all_but : (q : List ℕ → Bool) (done : List (List ℕ)) (item : List ℕ) (more : List (List ℕ)) → q item ≡ false → list_all q (done ++ item ∷ more) ≡ false
all_but q [] item more e = ap (λ b. b && list_all q more) e
all_but q (d ∷ done) item more e = ap (λ b. q d && b) (all_but q done item more e) ∙ nothing (q d)
  where
    nothing : (b : Bool) → (b && false) ≡ false
    nothing true = refl
    nothing false = refl

pub not_read : (codec : Codec) (text item : List ℕ) (set : ModeSet) (left more : List (List ℕ)) → IsRead codec text set left → left ≡ item ∷ more
    → is_item codec (trimmed item) ≡ false → list_all (is_item codec) (items text) ≡ false
not_read codec text item set left more r e refused = ap (list_all (is_item codec)) (r.whole ∙ ap (λ l. r.done ++ map trimmed l) e)
    ∙ all_but (is_item codec) r.done (trimmed item) (map trimmed more) refused

-- all of them
pub all_read : (codec : Codec) (text : List ℕ) (set : ModeSet) → IsRead codec text set [] → list_all (is_item codec) (items text) ≡ true
all_read codec text set r = ap (list_all (is_item codec)) (r.whole ∙ append-nil r.done) ∙ r.allowed

-- each number that is read is a mode
mode_in : (codec : Codec) (o : Option ℕ) (ns : List ℕ) (k : ℕ) → is_mode_number codec o ≡ true → ((m : ℕ) → has ns m ≡ true → is_mode codec m ≡ true) → has (cons_option o ns) k ≡ true → is_mode codec k ≡ true
mode_in codec None ns k a h e = absurd cc
mode_in codec (Some n) ns k a h e = elim (of_more n ns k e) [ inl s ↦ subst (λ m. is_mode codec m ≡ true) s a | inr s ↦ h k s ]

all_modes_in : (codec : Codec) (xs : List (List ℕ)) → list_all (is_item codec) xs ≡ true → (k : ℕ) → has (numbers xs) k ≡ true → is_mode codec k ≡ true
all_modes_in codec [] a k e = absurd cc
all_modes_in codec (x ∷ xs) a k e = let p = and_parts (is_item codec x) (list_all (is_item codec) xs) a in
    mode_in codec (number_in 5 x) (numbers xs) k p.0 (all_modes_in codec xs p.1) e

-- there is a first item, and it is a mode
some_number : (codec : Codec) (o : Option ℕ) (ns : List ℕ) → is_mode_number codec o ≡ true → (m : ℕ) × (has (cons_option o ns) m ≡ true)
some_number codec None ns a = absurd cc
some_number codec (Some n) ns a = (n, ap (λ b. b || has ns n) (eq-eqb n n refl))

some_mode : (codec : Codec) (xs : List (List ℕ)) → list_all (is_item codec) xs ≡ true → 0 < length xs → (m : ℕ) × (has (numbers xs) m ≡ true)
some_mode codec [] a l = absurd (omega arith)
some_mode codec (x ∷ xs) a l = some_number codec (number_in 5 x) (numbers xs) (and_parts (is_item codec x) (list_all (is_item codec) xs) a).0

some_items : (text : List ℕ) → 0 < length (items text)
some_items text = omega (arith, length-map (slice_split is_comma text) trimmed, length-slice_split is_comma text)

module _ (codec : Codec) (text : List ℕ) (set : ModeSet) (r : IsRead codec text set []) where
  same : (k : ℕ) → has (members set) k ≡ has (numbers (items text)) k
  same k = r.modes k ∙ ap (λ xs. has (numbers xs) k) (sym (r.whole ∙ append-nil r.done))

  pub modes_read : members set ≡ modes_of codec text
  modes_read = members_are codec set (numbers (items text)) same (all_modes_in codec (items text) (all_read codec text set r))

  pub set_read : IsModeSet codec (members set)
  set_read = let a = all_read codec text set r in let m = some_mode codec (items text) a (some_items text) in
      members_set codec set m.0 (same m.0 ∙ m.1) (λ k e. all_modes_in codec (items text) a k (sym (same k) ∙ e))

-- what is left of a list, by its next item
pub left_is : (rest : Option (Bor (List ℕ))) (left : Bor (List ℕ)) (item : List ℕ) (more : List (List ℕ)) → rest ≡ Some left → slice_split is_comma left.now ≡ item ∷ more → parts_in 44 rest ≡ item ∷ more
left_is rest left item more e s = ap (parts_in 44) e ∙ s

-- nothing is left of a list
pub ended : (codec : Codec) (text : List ℕ) (set : ModeSet) (rest : Option (Bor (List ℕ))) → IsRead codec text set (parts_in 44 rest) → rest ≡ None → IsRead codec text set []
ended codec text set rest r e = subst (λ o. IsRead codec text set (parts_in 44 o)) e r
