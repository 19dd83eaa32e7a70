-- A table that is written entry by entry.
use Rattle.std.proofs.Common.{◌≡◌, ℕ, zero, suc, ◌+◌, ◌-◌, ◌*◌, ◌<◌, ◌≤◌, Bool, true, false, ltb, List, [], ◌∷◌, ◌++◌, length, drop, map, get_or, sym, refl, ap, subst, ◌∙◌, arith, inl, inr}
use Rattle.std.specs.Prelude.{◌⊎◌}
use Rattle.std.proofs.lemmas.Bool.{ltb-true, ltb-false}
use Rattle.std.specs.List.{AllByRecursion}
use Rattle.std.proofs.lemmas.List.{append-nil, map-append, at_drop_more, length-drop, length-map}
use Rattle.amr_bits.specs.Layout.{Mark, settled}
use Rattle.amr_frame.specs.Frames.{Frame}
use Rattle.spec_payload.specs.Grammar.{entry, table}
use Rattle.amr_toc.specs.declared.entry.Entry.{Entry}
use Rattle.amr_toc.specs.Entries.{AreListed, AreWritable, HasTypes, headed, heading, headings, entry_text, table_text}

-- the front entry, behind which more entries follow or none
front_entry : (width : ℕ) (e : Entry) (rest : List Entry) (more : Bool) → (more ≡ true → 0 < length rest) → (more ≡ false → length rest ≡ 0) → table_text width (e ∷ rest) ≡ entry_text width e more ++ table_text width rest
front_entry width e [] true some none = absurd (let h = some refl in omega arith)
front_entry width e [] false some none = sym (append-nil (entry_text width e false))
front_entry width e (f ∷ rest) true some none = map-append settled (entry (width - 6) (headed e) true) (table (width - 6) (map headed (f ∷ rest)))
front_entry width e (f ∷ rest) false some none = absurd (let h = none refl in omega arith)

-- the entries from k on
pub entries_from : (width : ℕ) (es : List Entry) (k : ℕ) (d : Entry) → k < length es → table_text width (drop k es) ≡ entry_text width (get_or es k d) (ltb (k + 1) (length es)) ++ table_text width (drop (k + 1) es)
entries_from width es k d h =
    let l = length-drop (k + 1) es in
    at_drop_more (table_text width) es k d h
    ∙ front_entry width (get_or es k d) (drop (k + 1) es) (ltb (k + 1) (length es)) (λ t. let m = ltb-true (k + 1) (length es) t in omega arith) (λ t. let m = ltb-false (k + 1) (length es) t in omega arith)

-- room for one more entry
pub room_for : (width k n : ℕ) → (width ≡ 6) ⊎ (width ≡ 8) → k < n → width * k + width ≤ width * n
room_for width k n w h =
    elim w [
      | inl e ↦ subst (λ (x : ℕ). x * k + x ≤ x * n) (sym e) (omega arith)
      | inr e ↦ subst (λ (x : ℕ). x * k + x ≤ x * n) (sym e) (omega arith)
    ]

pub one_more : (width k : ℕ) → (width ≡ 6) ⊎ (width ≡ 8) → width * (k + 1) ≡ width * k + width
one_more width k w =
    elim w [
      | inl e ↦ subst (λ (x : ℕ). x * (k + 1) ≡ x * k + x) (sym e) (omega arith)
      | inr e ↦ subst (λ (x : ℕ). x * (k + 1) ≡ x * k + x) (sym e) (omega arith)
    ]

-- the frames that the entries of frames head have the same table
pub same_table : (gap : ℕ) (frames : List Frame) → table gap (map headed (headings frames)) ≡ table gap frames
same_table gap [] = refl
same_table gap (f ∷ []) = refl
same_table gap (f ∷ g ∷ fs) = ap (λ (marks : List Mark). entry gap f true ++ marks) (same_table gap (g ∷ fs))

-- and they have their types
types_of : (frames : List Frame) → AllByRecursion (λ (f : Frame). f.ft ≤ 15) frames → HasTypes (headings frames)
types_of [] all k other h = absurd (omega arith)
types_of (f ∷ fs) all zero other h = all.0
types_of (f ∷ fs) all (suc k) other h = types_of fs all.1 k other (omega arith)

pub writable : (width : ℕ) (frames : List Frame) → (width ≡ 6) ⊎ (width ≡ 8) → AreListed frames → AreWritable width (headings frames)
writable width frames wide h =
    let size = length-map frames heading in
    record {
      some = let s = h.some in omega arith;
      most = let m = h.most in omega arith;
      types = types_of frames h.types;
      wide = wide;
    }
