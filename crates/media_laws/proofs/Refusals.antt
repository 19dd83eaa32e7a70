-- Pieces that are printed aren't refused.
use Rattle.std.proofs.Common.{◌≡◌, ℕ, zero, suc, ◌+◌, ◌<◌, ◌≤◌, Bool, true, false, not, ◌||◌, List, [], ◌∷◌, ◌++◌, length, map, take, sym, refl, ap, ◌∙◌, arith, subst, append-nil, append_assoc, option_map, Option, Some, None, slice_index_or}
use Rattle.std.specs.List.{AllByRecursion, list_any, cons_option, range_with_len}
use Rattle.std.specs.Str.{str_eq_ignore_ascii_case}
use Rattle.std.proofs.lemmas.List.Elements.{filter_map-append}
use Rattle.amr_frame.specs.First.{first, when}
use Rattle.amr_frame.specs.declared.codec.Codec.{Codec}
use Rattle.media_laws.proofs.Rows.{IsRow, piece, same, spell, spelled, spell_is_piece}
use Rattle.media_laws.proofs.Texts.{IsPiece, trimmed_ink}
use Rattle.media_laws.proofs.Numbers.{all_append}
use Rattle.media_laws.proofs.Values.{AllowsAll, IsAllowed}
use Rattle.spec_media.specs.Params.{Row, is_allowed}
use Rattle.spec_media.specs.Pieces.{is_empty}
use Rattle.spec_media.specs.Reading.{piece_refusal, row_refusal, same_name}
use Rattle.refusals.specs.declared.media.FmtpRefusal.TheVariants as why

-- the first answer is behind those that aren't there
pub none_before : {X : Type 0} (f : ℕ → Option X) (a n : ℕ) (answers : List (Option X)) → ((k : ℕ) → a ≤ k → k < a + n → f k ≡ None) → first (map f (range_with_len a n) ++ answers) ≡ first answers
none_before f a zero answers h = refl
none_before f a (suc n) answers h = ap (λ o. first (o ∷ (map f (range_with_len (a + 1) n) ++ answers))) (h a (omega arith) (omega arith))
    ∙ none_before f (a + 1) n answers (λ k low high. h k (omega arith) (omega arith))

-- a piece of a row isn't refused where its value is allowed and its name didn't stand before
unrefused : (codec : Codec) (before : List (List ℕ)) (r : Row) (v : List ℕ) → IsRow r → IsAllowed codec r.values v → list_any (same_name (spell r v)) before ≡ false → piece_refusal codec before (spell r v) ≡ None
unrefused codec before r v k a apart =
    let named = ap is_empty (k.name v) ∙ k.some in
    let allowed = ap (is_allowed codec r.values) (k.value v ∙ trimmed_ink v a.value.ink) ∙ a.allowed in
    let right : row_refusal codec before (spell r v) (Some r) ≡ None = (λ i. first (when (not (allowed i)) (why.BadValue r.param) ∷ when (apart i) (why.Repeated r.param) ∷ [])) in
    let known = ap (row_refusal codec before (spell r v)) (k.row v) ∙ right in
    (λ i. first (when (named i) why.NoName ∷ known i ∷ []))

-- none of these pieces is refused behind those before it
abbrev pub AreClean : Codec → List (List ℕ) → List (List ℕ) → Type 0
AreClean codec before [] = Unit {0}
AreClean codec before (x ∷ xs) = (piece_refusal codec before x ≡ None) × AreClean codec (before ++ x ∷ []) xs

pub clean_at : (codec : Codec) (before xs : List (List ℕ)) → AreClean codec before xs → (k : ℕ) → k < length xs → piece_refusal codec (before ++ take k xs) (slice_index_or xs k []) ≡ None
clean_at codec before [] h k l = absurd (omega arith)
clean_at codec before (x ∷ xs) h zero l = ap (λ b. piece_refusal codec b x) (append-nil before) ∙ h.0
clean_at codec before (x ∷ xs) h (suc k) l = ap (λ b. piece_refusal codec b (slice_index_or xs k [])) (sym (append_assoc before (x ∷ []) (take k xs))) ∙ clean_at codec (before ++ x ∷ []) xs h.1 k (omega arith)

-- each row differs from those before it
abbrev pub AreApart : List Row → List Row → Type 0
AreApart done [] = Unit {0}
AreApart done (r ∷ rs) = (list_any (same r) done ≡ false) × AreApart (done ++ r ∷ []) rs

or_left : (a b : Bool) → (a || b) ≡ false → a ≡ false
or_left true b e = absurd (cc e)
or_left false b e = refl

or_right : (a b : Bool) → (a || b) ≡ false → b ≡ false
or_right true b e = absurd (cc e)
or_right false b e = e

module _ (value : Row → Option (List ℕ)) where
  no_name_at : (r d : Row) (v : List ℕ) (o : Option (List ℕ)) (others : List (List ℕ)) → IsRow r → IsRow d → same r d ≡ false → list_any (same_name (spell r v)) others ≡ false
      → list_any (same_name (spell r v)) (cons_option (option_map (spell d) o) others) ≡ false
  no_name_at r d v None others k m apart rest = rest
  no_name_at r d v (Some w) others k m apart rest = λ i. ((λ j. str_eq_ignore_ascii_case (k.name v j) (m.name w j)) ∙ apart) i || rest i

  no_name : (r : Row) (v : List ℕ) (done : List Row) → IsRow r → AllByRecursion IsRow done → list_any (same r) done ≡ false → list_any (same_name (spell r v)) (spelled value done) ≡ false
  no_name r v [] k ks e = refl
  no_name r v (d ∷ done) k ks e = no_name_at r d v (value d) (spelled value done) k ks.0 (or_left (same r d) (list_any (same r) done) e) (no_name r v done k ks.1 (or_right (same r d) (list_any (same r) done) e))

module _ (value : Row → Option (List ℕ)) (codec : Codec) where
  clean_row : (r : Row) (done : List (List ℕ)) (o : Option (List ℕ)) (xs : List (List ℕ)) → IsRow r → AllowsAll codec r.values o → ((v : List ℕ) → list_any (same_name (spell r v)) done ≡ false)
      → AreClean codec (done ++ cons_option (option_map (spell r) o) []) xs → AreClean codec done (cons_option (option_map (spell r) o) xs)
  clean_row r done None xs k a apart h = subst (λ b. AreClean codec b xs) (append-nil done) h
  clean_row r done (Some v) xs k a apart h = (unrefused codec done r v k (a v refl) (apart v), h)

  pub clean_rows : (done rs : List Row) → AllByRecursion IsRow done → AllByRecursion IsRow rs → AllByRecursion (λ r. AllowsAll codec r.values (value r)) rs → AreApart done rs → AreClean codec (spelled value done) (spelled value rs)
  clean_rows done [] ds ks al apart = tt
  clean_rows done (r ∷ rs) ds ks al apart = clean_row r (spelled value done) (value r) (spelled value rs) ks.0 al.0 (λ v. no_name value r v done ks.0 ds apart.0)
      (subst (λ b. AreClean codec b (spelled value rs)) (filter_map-append (piece value) done (r ∷ [])) (clean_rows (done ++ r ∷ []) rs (all_append IsRow done (r ∷ []) ds (ks.0, tt)) ks.1 al.1 apart.1))

  pieces_at : (r : Row) (o : Option (List ℕ)) (xs : List (List ℕ)) → IsRow r → AllowsAll codec r.values o → AllByRecursion IsPiece xs → AllByRecursion IsPiece (cons_option (option_map (spell r) o) xs)
  pieces_at r None xs k a h = h
  pieces_at r (Some v) xs k a h = (spell_is_piece r k v (a v refl).value, h)

  pub are_pieces : (rs : List Row) → AllByRecursion IsRow rs → AllByRecursion (λ r. AllowsAll codec r.values (value r)) rs → AllByRecursion IsPiece (spelled value rs)
  are_pieces [] ks al = tt
  are_pieces (r ∷ rs) ks al = pieces_at r (value r) (spelled value rs) ks.0 al.0 (are_pieces rs ks.1 al.1)
