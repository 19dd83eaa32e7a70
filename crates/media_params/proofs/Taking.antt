-- What pieces give, piece by piece.
use Rattle.std.proofs.Common.{◌≡◌, ℕ, zero, suc, ◌<◌, inl, inr, Bool, true, false, not, cond, ◌||◌, nat_eq, List, [], ◌∷◌, ◌++◌, length, find, get_or, Option, Some, None, Ok, Err, sym, refl, ap, ◌∙◌, arith, subst, eqb-true, slice_set, option_map}
use Rattle.std.specs.Prelude.{is_some}
use Rattle.std.specs.Borrow.{Bor}
use Rattle.std.specs.List.{AllByRecursion, list_all, list_any}
use Rattle.std.specs.Option.{option_copied}
use Rattle.std.specs.Str.{bytes_eq, str_to_ascii_lowercase}
use Rattle.std.proofs.lemmas.Bool.{and_parts}
use Rattle.std.proofs.lemmas.Bool.Decides.{eqb_tells}
use Rattle.std.proofs.lemmas.List.{get_or-set_other, get_or-set_same}
use Rattle.std.proofs.lemmas.Slice.Eq.{bytes_eq-Decides}
use Rattle.amr_frame.specs.First.{first, when}
use Rattle.amr_frame.specs.declared.codec.Codec.{Codec}
use Rattle.media_params.specs.Given.{AreAllowed, Holds, Takes, at}
use Rattle.media_params.specs.Places.{place}
use Rattle.media_params.specs.declared.given.Given.{Given}
use Rattle.refusals.specs.Names.{param_name}
use Rattle.refusals.specs.declared.media.FmtpRefusal.TheVariants as why
use Rattle.refusals.specs.declared.param.Param.{Param}
use Rattle.refusals.specs.declared.param.Param.TheVariants as param
use Rattle.spec_media.specs.Params.{is_allowed, is_named, row_for, row_of, rows, values_of}
use Rattle.spec_media.specs.Pieces.{is_empty, name_of, value_of}
use Rattle.spec_media.specs.Reading.{piece_of, piece_refusal, row_refusal, same_name}

pub put_is : (values : List (Option (Bor (List ℕ)))) (p q : Param) (v : Bor (List ℕ)) → place p < length values
    → option_copied (get_or (slice_set values (place p) (Some v)) (place q) None) ≡ cond (nat_eq (place q) (place p)) (Some v.now) (option_copied (get_or values (place q) None))
put_is values p q v l = elim (eqb_tells (place q) (place p)) [
  | inl t ↦ ap (λ k. option_copied (get_or (slice_set values (place p) (Some v)) k None)) t.1 ∙ ap option_copied (get_or-set_same values (place p) (Some v) None l)
      ∙ sym (ap (λ b. cond b (Some v.now) (option_copied (get_or values (place q) None))) t.0)
  | inr t ↦ ap option_copied (get_or-set_other values (place p) (place q) (Some v) None t.1) ∙ sym (ap (λ b. cond b (Some v.now) (option_copied (get_or values (place q) None))) t.0)
]

-- the first of a list that passes, and of a list with one more
find_none : {X : Type 0} (test : X → Bool) (xs : List X) → find test xs ≡ None → AllByRecursion (λ x. test x ≡ false) xs
find_none test [] e = tt
find_none {X} test (x ∷ xs) e = step (test x) refl e (find_none test xs)
  where
    step : (b : Bool) → test x ≡ b → cond b (Some x) (find test xs) ≡ None → (find test xs ≡ None → AllByRecursion (λ y. test y ≡ false) xs) → AllByRecursion (λ y. test y ≡ false) (x ∷ xs)
    step true t n rest = absurd cc
    step false t n rest = (t, rest n)

find_passes : {X : Type 0} (test : X → Bool) (xs : List X) (y : X) → find test xs ≡ Some y → test y ≡ true
find_passes test [] y e = absurd cc
find_passes {X} test (x ∷ xs) y e = step (test x) refl e (find_passes test xs y)
  where
    step : (b : Bool) → test x ≡ b → cond b (Some x) (find test xs) ≡ Some y → (find test xs ≡ Some y → test y ≡ true) → test y ≡ true
    step true t n rest = let same : x ≡ y = cc n in subst (λ z. test z ≡ true) same t
    step false t n rest = rest n

find_more : {X : Type 0} (test : X → Bool) (xs : List X) (y : X) → test y ≡ false → find test (xs ++ y ∷ []) ≡ find test xs
find_more test [] y e = ap (λ b. cond b (Some y) None) e
find_more test (x ∷ xs) y e = ap (λ r. cond (test x) (Some x) r) (find_more test xs y e)

find_last : {X : Type 0} (test : X → Bool) (xs : List X) (y : X) → find test xs ≡ None → test y ≡ true → find test (xs ++ y ∷ []) ≡ Some y
find_last test [] y n e = ap (λ b. cond b (Some y) None) e
find_last test (x ∷ xs) y n e = let f = find_none test (x ∷ xs) n in
    ap (λ b. cond b (Some x) (find test (xs ++ y ∷ []))) f.0 ∙ find_last test xs y (sym (ap (λ b. cond b (Some x) (find test xs)) f.0) ∙ n) e

any_found : {X : Type 0} (p q : X → Bool) (xs : List X) → ((x : X) → p x ≡ q x) → list_any p xs ≡ is_some (find q xs)
any_found p q [] h = refl
any_found p q (x ∷ xs) h = (λ i. h x i || any_found p q xs h i) ∙ by (q x)
  where
    by : (b : Bool) → (b || is_some (find q xs)) ≡ is_some (cond b (Some x) (find q xs))
    by true = refl
    by false = refl

-- names differ where the parameters do
abbrev table : List Param
table = param.OctetAlign ∷ param.ModeSet ∷ param.Period ∷ param.Capability ∷ param.Neighbor ∷ param.Crc ∷ param.Sorting ∷ param.Interleaving ∷ param.MaxRed ∷ []

abbrev alike : Bool → Bool → Bool
alike true b = b
alike false b = not b

alike_is : (a b : Bool) → alike a b ≡ true → a ≡ b
alike_is true b e = sym e
alike_is false true e = absurd cc
alike_is false false e = refl

abbrev lower : Param → List ℕ
lower p = str_to_ascii_lowercase (param_name p)

abbrev agree : Param → Param → Bool
agree q p = alike (bytes_eq (lower q) (lower p)) (nat_eq (place q) (place p))

all_at : {X : Type 0} (t : X → Bool) (xs : List X) (i : ℕ) (d : X) → list_all t xs ≡ true → i < length xs → t (get_or xs i d) ≡ true
all_at t [] i d a l = absurd (omega arith)
all_at t (x ∷ xs) zero d a l = (and_parts (t x) (list_all t xs) a).0
all_at t (x ∷ xs) (suc i) d a l = all_at t xs i d (and_parts (t x) (list_all t xs) a).1 (omega arith)

in_table : (p : Param) → (place p < length table) × (get_or table (place p) param.OctetAlign ≡ p)
in_table param.OctetAlign = (omega arith, refl)
in_table param.ModeSet = (omega arith, refl)
in_table param.Period = (omega arith, refl)
in_table param.Capability = (omega arith, refl)
in_table param.Neighbor = (omega arith, refl)
in_table param.Crc = (omega arith, refl)
in_table param.Sorting = (omega arith, refl)
in_table param.Interleaving = (omega arith, refl)
in_table param.MaxRed = (omega arith, refl)

for_all : (t : Param → Bool) → list_all t table ≡ true → (p : Param) → t p ≡ true
for_all t a p = subst (λ q. t q ≡ true) (in_table p).1 (all_at t table (place p) param.OctetAlign a (in_table p).0)

all_agree : list_all (λ q. list_all (agree q) table) table ≡ true
all_agree = refl

apart : (q p : Param) → bytes_eq (lower q) (lower p) ≡ nat_eq (place q) (place p)
apart q p = alike_is (bytes_eq (lower q) (lower p)) (nat_eq (place q) (place p)) (for_all (agree q) (for_all (λ r. list_all (agree r) table) all_agree q) p)

equal : (xs ys : List ℕ) → bytes_eq xs ys ≡ true → xs ≡ ys
equal xs ys e = (bytes_eq-Decides xs ys).0 e

-- a piece of no parameter has the name of none
no_row : (piece : List ℕ) → row_of piece ≡ None → (p : Param) → is_named (row_for p) piece ≡ false
no_row piece e p = by p (find_none (λ r. is_named r piece) rows e)
  where
    by : (q : Param) → AllByRecursion (λ r. is_named r piece ≡ false) rows → is_named (row_for q) piece ≡ false
    by param.OctetAlign h = h.0
    by param.ModeSet h = h.1.0
    by param.Period h = h.1.1.0
    by param.Capability h = h.1.1.1.0
    by param.Neighbor h = h.1.1.1.1.0
    by param.Crc h = h.1.1.1.1.1.0
    by param.Sorting h = h.1.1.1.1.1.1.0
    by param.Interleaving h = h.1.1.1.1.1.1.1.0
    by param.MaxRed h = h.1.1.1.1.1.1.1.1.0

pub takes_unknown : (codec : Codec) (g : Given) (piece : List ℕ) → is_empty (name_of piece) ≡ false → row_of piece ≡ None → Takes codec g piece g (Ok tt)
takes_unknown codec g piece some row = record {
  taken = λ before h. record { value = λ p. h.value p ∙ ap (option_map value_of) (sym (find_more (is_named (row_for p)) before piece (no_row piece row p))) };
  clean = λ before h i. first (when (some i) why.NoName ∷ row_refusal codec before piece (row i) ∷ []);
  refused = λ before h. tt;
  allowed = λ a. a;
}

-- a piece of a parameter
alone : {X : Type 0} (o : Option X) → first (o ∷ []) ≡ o
alone None = refl
alone (Some x) = refl

module _ (p : Param) (piece : List ℕ) (row : row_of piece ≡ Some (row_for p)) where
  named : is_named (row_for p) piece ≡ true
  named = find_passes (λ r. is_named r piece) rows (row_for p) row

  its_name : str_to_ascii_lowercase (name_of piece) ≡ lower p
  its_name = sym (equal (lower p) (str_to_ascii_lowercase (name_of piece)) named)

  -- another parameter isn't its
  its : (q : Param) → is_named (row_for q) piece ≡ nat_eq (place q) (place p)
  its q = ap (bytes_eq (lower q)) its_name ∙ apart q p

  -- a piece has its name where it is one of the parameter
  same_named : (b : List ℕ) → same_name piece b ≡ is_named (row_for p) b
  same_named b = ap (λ n. bytes_eq n (str_to_ascii_lowercase (name_of b))) its_name

  stood : (before : List (List ℕ)) → list_any (same_name piece) before ≡ is_some (piece_of p before)
  stood before = any_found (same_name piece) (is_named (row_for p)) before same_named

  refusal_is : (codec : Codec) (before : List (List ℕ)) (a s : Bool) → is_empty (name_of piece) ≡ false → is_allowed codec (values_of p) (value_of piece) ≡ a
      → is_some (piece_of p before) ≡ s → piece_refusal codec before piece ≡ first (when (not a) (why.BadValue p) ∷ when s (why.Repeated p) ∷ [])
  refusal_is codec before a s some allowed stands = (λ i. first (when (some i) why.NoName ∷ row_refusal codec before piece (row i) ∷ []))
      ∙ alone (row_refusal codec before piece (Some (row_for p)))
      ∙ (λ i. first (when (not (allowed i)) (why.BadValue p) ∷ when ((stood before ∙ stands) i) (why.Repeated p) ∷ []))

some_value : (o : Option (List ℕ)) → is_some (option_map value_of o) ≡ is_some o
some_value None = refl
some_value (Some x) = refl

none_value : (o : Option (List ℕ)) → is_some (option_map value_of o) ≡ false → o ≡ None
none_value None e = refl
none_value (Some x) e = absurd cc

pub takes_no_second : (codec : Codec) (g : Given) (p : Param) (piece : List ℕ) → is_empty (name_of piece) ≡ false → row_of piece ≡ Some (row_for p)
    → is_allowed codec (values_of p) (value_of piece) ≡ true → is_some (at g p) ≡ true → Takes codec g piece g (Err (why.Repeated p))
takes_no_second codec g p piece some row allowed stands = record {
  taken = λ before h. tt;
  clean = λ before h. tt;
  refused = λ before h. refusal_is p piece row codec before true true some allowed (sym (some_value (piece_of p before)) ∙ sym (ap is_some (h.value p)) ∙ stands);
  allowed = λ a. a;
}

pub takes_first : (codec : Codec) (old new : Given) (p : Param) (piece : List ℕ) → is_empty (name_of piece) ≡ false → row_of piece ≡ Some (row_for p)
    → is_allowed codec (values_of p) (value_of piece) ≡ true → is_some (at old p) ≡ false
    → ((q : Param) → at new q ≡ cond (nat_eq (place q) (place p)) (Some (value_of piece)) (at old q)) → Takes codec old piece new (Ok tt)
takes_first codec old new p piece some row allowed stands put = record {
  taken = λ before h. record { value = λ q. held before h q (nat_eq (place q) (place p)) refl };
  clean = λ before h. refusal_is p piece row codec before true false some allowed (ap is_some (none_value (piece_of p before) (sym (ap is_some (h.value p)) ∙ stands)));
  refused = λ before h. tt;
  allowed = λ a. record { allowed = λ q v e. stays a q v (nat_eq (place q) (place p)) refl e };
}
  where
    same : (q : Param) → nat_eq (place q) (place p) ≡ true → q ≡ p
    same q e = sym (in_table q).1 ∙ ap (λ k. get_or table k param.OctetAlign) (eqb-true (place q) (place p) e) ∙ (in_table p).1

    held : (before : List (List ℕ)) → Holds old before → (q : Param) (b : Bool) → nat_eq (place q) (place p) ≡ b → at new q ≡ option_map value_of (piece_of q (before ++ piece ∷ []))
    held before h q true e = put q ∙ ap (λ t. cond t (Some (value_of piece)) (at old q)) e
        ∙ ap (option_map value_of) (sym (find_last (is_named (row_for q)) before piece (none_value (piece_of q before) (sym (ap is_some (h.value q)) ∙ ap (λ r. is_some (at old r)) (same q e) ∙ stands)) (its p piece row q ∙ e)))
    held before h q false e = put q ∙ ap (λ t. cond t (Some (value_of piece)) (at old q)) e ∙ h.value q
        ∙ ap (option_map value_of) (sym (find_more (is_named (row_for q)) before piece (its p piece row q ∙ e)))

    given : (v : List ℕ) → Some (value_of piece) ≡ Some v → v ≡ value_of piece
    given v e = cc e

    stays : AreAllowed codec old → (q : Param) (v : List ℕ) (b : Bool) → nat_eq (place q) (place p) ≡ b → at new q ≡ Some v → is_allowed codec (values_of q) v ≡ true
    stays a q v true e n = subst (λ r. is_allowed codec (values_of r) v ≡ true) (sym (same q e))
        (ap (is_allowed codec (values_of p)) (given v (sym (put q ∙ ap (λ t. cond t (Some (value_of piece)) (at old q)) e) ∙ n)) ∙ allowed)
    stays a q v false e n = a.allowed q v (sym (put q ∙ ap (λ t. cond t (Some (value_of piece)) (at old q)) e) ∙ n)

some_copied : (o : Option (Bor (List ℕ))) → is_some (option_copied o) ≡ is_some o
some_copied None = refl
some_copied (Some x) = refl

pub is_given : (g : Given) (p : Param) (o : Option (Bor (List ℕ))) (b : Bool) → option_copied o ≡ at g p → is_some o ≡ b → is_some (at g p) ≡ b
is_given g p o b e s = sym (ap is_some e) ∙ some_copied o ∙ s
