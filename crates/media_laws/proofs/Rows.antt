-- What is to know of each row of the table of parameters, and where pieces of rows are found.
use Rattle.std.proofs.Common.{◌≡◌, ℕ, ◌<◌, Bool, true, false, not, cond, List, [], ◌∷◌, ◌++◌, length, sym, refl, ap, ◌∙◌, arith, length-append, ne_eqb, ltb-true, nat_lt, ◌&&◌, filter, filter_map, find, option_map, Option, Some, None, codes}
use Rattle.std.specs.List.{AllByRecursion, list_all, cons_option}
use Rattle.std.specs.Str.{str_eq_ignore_ascii_case}
use Rattle.media_laws.proofs.Texts.{AreInk, IsInk, IsWhole, IsPiece}
use Rattle.media_laws.proofs.Numbers.{IsValue, all_append}
use Rattle.refusals.specs.declared.param.Param.TheVariants as param
use Rattle.spec_media.specs.Params.{Row, is_named, row_of, rows, row_for}
use Rattle.spec_media.specs.Pieces.{is_empty, is_semicolon, name_of, trimmed, value_of}

-- a row with a value as it is printed
abbrev pub spell : Row → List ℕ → List ℕ
spell r value = r.name ++ codes "=" ++ value

-- a row of the table: its name is read out of each of its pieces, and nothing but it
pub record IsRow (r : Row) : Type 0 where
  pub name : (value : List ℕ) → name_of (spell r value) ≡ r.name
  pub value : (value : List ℕ) → value_of (spell r value) ≡ trimmed value
  pub row : (value : List ℕ) → row_of (spell r value) ≡ Some r
  pub some : is_empty r.name ≡ false
  pub full : (value : List ℕ) → is_empty (spell r value) ≡ false
  pub ink : AreInk r.name
  pub whole : IsWhole is_semicolon r.name

abbrev pub same : Row → Row → Bool
same r other = str_eq_ignore_ascii_case r.name other.name

-- the pieces of rows with these values
abbrev pub piece : (Row → Option (List ℕ)) → Row → Option (List ℕ)
piece value r = option_map (spell r) (value r)

abbrev pub spelled : (Row → Option (List ℕ)) → List Row → List (List ℕ)
spelled value rs = filter_map (piece value) rs

abbrev Uncut : ℕ → Type 0
Uncut o = is_semicolon o ≡ false

pub spell_is_piece : (r : Row) → IsRow r → (value : List ℕ) → IsValue value → IsPiece (spell r value)
spell_is_piece r k value v = record {
  ink = all_append IsInk (r.name ++ codes "=") value (all_append IsInk r.name (codes "=") k.ink (omega arith, tt)) v.ink;
  whole = all_append Uncut (r.name ++ codes "=") value (all_append Uncut r.name (codes "=") k.whole (refl, tt)) v.whole;
  some = k.full value;
}

module _ (value : Row → Option (List ℕ)) where
  -- a piece is found by its row's name
  by_name : (f r : Row) → IsRow r → (v : List ℕ) → is_named f (spell r v) ≡ same f r
  by_name f r k v = ap (str_eq_ignore_ascii_case f.name) (k.name v)

  passed : (f r : Row) → IsRow r → (o : Option (List ℕ)) → same f r ≡ false → (rest : List (List ℕ)) → find (is_named f) (cons_option (option_map (spell r) o) rest) ≡ find (is_named f) rest
  passed f r k None apart rest = refl
  passed f r k (Some v) apart rest = ap (λ b. cond b (Some (spell r v)) (find (is_named f) rest)) (by_name f r k v ∙ apart)

  met : (f r : Row) → IsRow r → (o : Option (List ℕ)) → same f r ≡ true → (rest : List (List ℕ)) → find (is_named f) rest ≡ None
      → find (is_named f) (cons_option (option_map (spell r) o) rest) ≡ option_map (spell r) o
  met f r k None is rest none = none
  met f r k (Some v) is rest none = ap (λ b. cond b (Some (spell r v)) (find (is_named f) rest)) (by_name f r k v ∙ is)

  -- where the rows of a name are none
  none_at : (f r : Row) (rs : List Row) → IsRow r → (t : Bool) → same f r ≡ t → filter (same f) (r ∷ rs) ≡ [] → (filter (same f) rs ≡ [] → find (is_named f) (spelled value rs) ≡ None)
      → find (is_named f) (spelled value (r ∷ rs)) ≡ None
  none_at f r rs k true is e behind = absurd (cc (sym (ap (λ u. cond u (r ∷ filter (same f) rs) (filter (same f) rs)) is) ∙ e))
  none_at f r rs k false is e behind = passed f r k (value r) is (spelled value rs) ∙ behind (sym (ap (λ u. cond u (r ∷ filter (same f) rs) (filter (same f) rs)) is) ∙ e)

  none_found : (f : Row) (rs : List Row) → AllByRecursion IsRow rs → filter (same f) rs ≡ [] → find (is_named f) (spelled value rs) ≡ None
  none_found f [] k e = refl
  none_found f (r ∷ rs) k e = none_at f r rs k.0 (same f r) refl e (none_found f rs k.1)

  -- where the row of a name is one
  one_at : (f r : Row) (rs : List Row) → AllByRecursion IsRow (r ∷ rs) → (t : Bool) → same f r ≡ t → filter (same f) (r ∷ rs) ≡ f ∷ [] → (filter (same f) rs ≡ f ∷ [] → find (is_named f) (spelled value rs) ≡ piece value f)
      → find (is_named f) (spelled value (r ∷ rs)) ≡ piece value f
  one_at f r rs k true is e behind =
      let all : r ∷ filter (same f) rs ≡ f ∷ [] = sym (ap (λ u. cond u (r ∷ filter (same f) rs) (filter (same f) rs)) is) ∙ e in
      let first : r ≡ f = cc all in
      let others : filter (same f) rs ≡ [] = cc all in
      met f r k.0 (value r) is (spelled value rs) (none_found f rs k.1 others) ∙ ap (piece value) first
  one_at f r rs k false is e behind = passed f r k.0 (value r) is (spelled value rs) ∙ behind (sym (ap (λ u. cond u (r ∷ filter (same f) rs) (filter (same f) rs)) is) ∙ e)

  pub one_found : (f : Row) (rs : List Row) → AllByRecursion IsRow rs → filter (same f) rs ≡ f ∷ [] → find (is_named f) (spelled value rs) ≡ piece value f
  one_found f [] k e = absurd (cc e)
  one_found f (r ∷ rs) k e = one_at f r rs k (same f r) refl e (one_found f rs k.1)

and_left : (a b : Bool) → (a && b) ≡ true → a ≡ true
and_left true b e = refl
and_left false b e = absurd (cc e)

and_right : (a b : Bool) → (a && b) ≡ true → b ≡ true
and_right true b e = e
and_right false b e = absurd (cc e)

not_true : (a : Bool) → not a ≡ true → a ≡ false
not_true true e = absurd (cc e)
not_true false e = refl

-- octets that are tested one by one
abbrev is_name_octet : ℕ → Bool
is_name_octet o = nat_lt 32 o && not (is_semicolon o)

tested : (P : ℕ → Type 0) → ((o : ℕ) → is_name_octet o ≡ true → P o) → (text : List ℕ) → list_all is_name_octet text ≡ true → AllByRecursion P text
tested P f [] e = tt
tested P f (o ∷ text) e = (f o (and_left (is_name_octet o) (list_all is_name_octet text) e), tested P f text (and_right (is_name_octet o) (list_all is_name_octet text) e))

is_ink : (o : ℕ) → is_name_octet o ≡ true → 32 < o
is_ink o e = ltb-true 32 o (and_left (nat_lt 32 o) (not (is_semicolon o)) e)

is_uncut : (o : ℕ) → is_name_octet o ≡ true → is_semicolon o ≡ false
is_uncut o e = not_true (is_semicolon o) (and_right (nat_lt 32 o) (not (is_semicolon o)) e)

record IsKnown (r : Row) : Type 0 where
  name : (value : List ℕ) → name_of (spell r value) ≡ r.name
  value : (value : List ℕ) → value_of (spell r value) ≡ trimmed value
  row : (value : List ℕ) → row_of (spell r value) ≡ Some r
  some : is_empty r.name ≡ false
  octets : list_all is_name_octet r.name ≡ true

known : (r : Row) → IsKnown r → IsRow r
known r k = record {
  name = k.name;
  value = k.value;
  row = k.row;
  some = k.some;
  full = λ v. ne_eqb (length (spell r v)) 0 (λ e. omega (arith, length-append (r.name ++ codes "=") v, length-append r.name (codes "=")));
  ink = tested IsInk is_ink r.name k.octets;
  whole = tested Uncut is_uncut r.name k.octets;
}

-- the rows of the table are rows
pub rows_are_rows : AllByRecursion IsRow rows
rows_are_rows = (
  known (row_for param.OctetAlign) (record { name = λ v. refl; value = λ v. refl; row = λ v. refl; some = refl; octets = refl }),
  (
    known (row_for param.ModeSet) (record { name = λ v. refl; value = λ v. refl; row = λ v. refl; some = refl; octets = refl }),
    (
      known (row_for param.Period) (record { name = λ v. refl; value = λ v. refl; row = λ v. refl; some = refl; octets = refl }),
      (
        known (row_for param.Capability) (record { name = λ v. refl; value = λ v. refl; row = λ v. refl; some = refl; octets = refl }),
        (
          known (row_for param.Neighbor) (record { name = λ v. refl; value = λ v. refl; row = λ v. refl; some = refl; octets = refl }),
          (
            known (row_for param.Crc) (record { name = λ v. refl; value = λ v. refl; row = λ v. refl; some = refl; octets = refl }),
            (
              known (row_for param.Sorting) (record { name = λ v. refl; value = λ v. refl; row = λ v. refl; some = refl; octets = refl }),
              (
                known (row_for param.Interleaving) (record { name = λ v. refl; value = λ v. refl; row = λ v. refl; some = refl; octets = refl }),
                (
                  known (row_for param.MaxRed) (record { name = λ v. refl; value = λ v. refl; row = λ v. refl; some = refl; octets = refl }),
                  tt,
                ),
              ),
            ),
          ),
        ),
      ),
    ),
  ),
)
