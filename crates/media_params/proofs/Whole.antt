-- A whole text, part by part.
use Rattle.std.proofs.Common.{◌≡◌, ℕ, zero, suc, ◌+◌, ◌<◌, ◌≤◌, inl, inr, Bool, true, false, not, cond, List, [], ◌∷◌, ◌++◌, length, map, filter, take, Option, Some, None, Ok, Err, sym, refl, ap, ◌∙◌, arith, subst, append_assoc, length-append, slice_index_or}
use Rattle.std.specs.List.{range_with_len, slice_split}
use Rattle.std.proofs.lemmas.Bool.{cases_lt}
use Rattle.std.proofs.lemmas.List.{take-append-le}
use Rattle.amr_frame.specs.First.{first}
use Rattle.amr_frame.specs.declared.codec.Codec.{Codec}
use Rattle.media_params.specs.Given.{AreAllowed, Holds, TakesPart}
use Rattle.media_params.specs.declared.given.Given.{Given}
use Rattle.refusals.specs.declared.media.FmtpRefusal.{FmtpRefusal}
use Rattle.spec_media.specs.Pieces.{is_empty, is_semicolon, pieces, trimmed}
use Rattle.spec_media.specs.Reading.{answered, parameters_in, parameters_of, piece_refusal, refusal}

-- the pieces in parts of a text
abbrev pub kept : List (List ℕ) → List (List ℕ)
kept parts = filter (λ piece. not (is_empty piece)) (map trimmed parts)

abbrev pub refused_at : Codec → List (List ℕ) → ℕ → Option FmtpRefusal
refused_at codec ps k = piece_refusal codec (take k ps) (slice_index_or ps k [])

-- a text of which some pieces were taken, and these parts are left
pub record IsReadTo (codec : Codec) (text : List ℕ) (g : Given) (left : List (List ℕ)) : Type 0 where
  pub done : List (List ℕ)
  pub whole : pieces text ≡ done ++ kept left
  pub holds : Holds g done
  pub clean : (k : ℕ) → k < length done → refused_at codec done k ≡ None
  pub allowed : AreAllowed codec g

pub begun : (codec : Codec) (text : List ℕ) (g : Given) → Holds g [] → AreAllowed codec g → IsReadTo codec text g (slice_split is_semicolon text)
begun codec text g h a = record { done = []; whole = refl; holds = h; clean = λ k l. absurd (omega arith); allowed = a }

kept_none : (part : List ℕ) (more : List (List ℕ)) → is_empty (trimmed part) ≡ true → kept (part ∷ more) ≡ kept more
kept_none part more e = ap (λ b. cond (not b) (trimmed part ∷ kept more) (kept more)) e

kept_some : (part : List ℕ) (more : List (List ℕ)) → is_empty (trimmed part) ≡ false → kept (part ∷ more) ≡ trimmed part ∷ kept more
kept_some part more e = ap (λ b. cond (not b) (trimmed part ∷ kept more) (kept more)) e

-- what stands at a place of a list stands there in a longer one
at_front : (xs ys : List (List ℕ)) (k : ℕ) → k < length xs → slice_index_or (xs ++ ys) k [] ≡ slice_index_or xs k []
at_front [] ys k l = absurd (omega arith)
at_front (x ∷ xs) ys zero l = refl
at_front (x ∷ xs) ys (suc k) l = at_front xs ys k (omega arith)

at_next : (xs : List (List ℕ)) (y : List ℕ) (ys : List (List ℕ)) → slice_index_or (xs ++ y ∷ ys) (length xs) [] ≡ y
at_next [] y ys = refl
at_next (x ∷ xs) y ys = at_next xs y ys

front_of : (xs ys : List (List ℕ)) → take (length xs) (xs ++ ys) ≡ xs
front_of [] ys = refl
front_of (x ∷ xs) ys = ap (λ r. x ∷ r) (front_of xs ys)

refused_front : (codec : Codec) (xs ys : List (List ℕ)) (k : ℕ) → k < length xs → refused_at codec (xs ++ ys) k ≡ refused_at codec xs k
refused_front codec xs ys k l = λ i. piece_refusal codec (take-append-le k xs ys (omega arith) i) (at_front xs ys k l i)

refused_next : (codec : Codec) (xs : List (List ℕ)) (y : List ℕ) (ys : List (List ℕ)) → refused_at codec (xs ++ y ∷ ys) (length xs) ≡ piece_refusal codec xs y
refused_next codec xs y ys = λ i. piece_refusal codec (front_of xs (y ∷ ys) i) (at_next xs y ys i)

clean_more : (codec : Codec) (done : List (List ℕ)) (x : List ℕ) → ((k : ℕ) → k < length done → refused_at codec done k ≡ None) → piece_refusal codec done x ≡ None
    → (k : ℕ) → k < length (done ++ x ∷ []) → refused_at codec (done ++ x ∷ []) k ≡ None
clean_more codec done x h e k l = elim (cases_lt k (length done)) [
  | inl u ↦ refused_front codec done (x ∷ []) k u ∙ h k u
  | inr g ↦ let at : length done ≡ k = omega (arith, length-append done (x ∷ [])) in subst (λ n. refused_at codec (done ++ x ∷ []) n ≡ None) at (refused_next codec done x [] ∙ e)
]

pub takes_part : (codec : Codec) (text part : List ℕ) (old new : Given) (left more : List (List ℕ)) → IsReadTo codec text old left → left ≡ part ∷ more
    → TakesPart codec old part new (Ok tt) → IsReadTo codec text new more
takes_part codec text part old new left more r e t = by (is_empty (trimmed part)) refl
  where
    by : (b : Bool) → is_empty (trimmed part) ≡ b → IsReadTo codec text new more
    by true s = subst (λ g. IsReadTo codec text g more) (sym (t.passed s).1)
        (record { done = r.done; whole = r.whole ∙ ap (λ l. r.done ++ kept l) e ∙ ap (λ l. r.done ++ l) (kept_none part more s); holds = r.holds; clean = r.clean; allowed = r.allowed })
    by false s = record {
      done = r.done ++ trimmed part ∷ [];
      whole = r.whole ∙ ap (λ l. r.done ++ kept l) e ∙ ap (λ l. r.done ++ l) (kept_some part more s) ∙ sym (append_assoc r.done (trimmed part ∷ []) (kept more));
      holds = (t.taken s).taken r.done r.holds;
      clean = clean_more codec r.done (trimmed part) r.clean ((t.taken s).clean r.done r.holds);
      allowed = (t.taken s).allowed r.allowed;
    }

-- the first refusal, where those before it are none
first_at : {X : Type 0} (f : ℕ → Option X) (w : X) (answers : List (Option X)) (n a t : ℕ) → n < t → ((k : ℕ) → a ≤ k → k < a + n → f k ≡ None) → f (a + n) ≡ Some w
    → first (map f (range_with_len a t) ++ answers) ≡ Some w
first_at f w answers n a zero l h e = absurd (omega arith)
first_at f w answers zero a (suc t) l h e = ap (λ o. first (o ∷ (map f (range_with_len (a + 1) t) ++ answers))) (ap f (omega arith) ∙ e)
first_at f w answers (suc n) a (suc t) l h e = ap (λ o. first (o ∷ (map f (range_with_len (a + 1) t) ++ answers))) (h a (omega arith) (omega arith))
    ∙ first_at f w answers n (a + 1) t (omega arith) (λ k low high. h k (omega arith) (omega arith)) (ap f (omega arith) ∙ e)

pub refuses_part : (codec : Codec) (text part : List ℕ) (old new : Given) (left more : List (List ℕ)) (why : FmtpRefusal) → IsReadTo codec text old left → left ≡ part ∷ more
    → TakesPart codec old part new (Err why) → Err why ≡ parameters_of codec text
refuses_part codec text part old new left more why r e t = by (is_empty (trimmed part)) refl
  where
    by : (b : Bool) → is_empty (trimmed part) ≡ b → Err why ≡ parameters_of codec text
    by true s = absurd (cc (t.passed s).0)
    by false s =
        let ps = r.done ++ trimmed part ∷ kept more in
        let whole : pieces text ≡ r.done ++ trimmed part ∷ kept more = r.whole ∙ ap (λ l. r.done ++ kept l) e ∙ ap (λ l. r.done ++ l) (kept_some part more s) in
        sym (ap (λ l. answered (refusal codec l) (parameters_in codec l)) whole
        ∙ ap (λ o. answered o (parameters_in codec ps)) (first_at (refused_at codec ps) why _ (length r.done) 0 (length ps) (omega (arith, length-append r.done (trimmed part ∷ kept more)))
        (λ k low high. refused_front codec r.done (trimmed part ∷ kept more) k (omega arith) ∙ r.clean k (omega arith))
        (ap (refused_at codec ps) (omega arith) ∙ refused_next codec r.done (trimmed part) (kept more) ∙ (t.taken s).refused r.done r.holds)))
