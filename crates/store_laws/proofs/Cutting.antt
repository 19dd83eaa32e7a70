-- Octets cut into frames: there is one cut, and the fold over the octets finds it.
use Rattle.std.proofs.Common.{◌≡◌, ℕ, suc, ◌+◌, true, false, cond, List, [], ◌∷◌, ◌++◌, length, sym, refl, ap, ◌∙◌, subst, append_assoc, arith}
use Rattle.std.specs.List.{flat_map, fold, AllByRecursion}
use Rattle.std.proofs.lemmas.Bool.{ne_eqb, eq-eqb, eqb-true}
use Rattle.std.proofs.lemmas.List.{length-append, append-nil}
use Rattle.std.proofs.lemmas.List.Concat.{flat_map-append}
use Rattle.std.proofs.lemmas.List.Sums.{fold-append}
use Rattle.amr_frame.specs.declared.codec.Codec.{Codec}
use Rattle.amr_frame.specs.Tables.{octets_in}
use Rattle.spec_store.specs.StorageReading.{Units, is_unit, unit_type, units, with_octet}

abbrev pub state : List (List ℕ) → List ℕ → Units
state whole rest = record { whole = whole; rest = rest }

abbrev pub octets_of : List (List ℕ) → List ℕ
octets_of us = flat_map (λ u. u) us

-- how many octets a frame has whose first octet is o
abbrev pub need : Codec → ℕ → ℕ
need codec o = 1 + octets_in codec (unit_type (o ∷ []))

-- an octet that makes no frame, or makes one
pub kept : (codec : Codec) (ws : List (List ℕ)) (o : ℕ) (front : List ℕ) (x : ℕ) → (length (front ++ x ∷ []) + 1 ≡ need codec o → ⊥)
    → with_octet codec (state ws (o ∷ front)) x ≡ state ws (o ∷ front ++ x ∷ [])
kept codec ws o front x e =
    let none : is_unit codec (o ∷ front ++ x ∷ []) ≡ false = ne_eqb (suc (length (front ++ x ∷ []))) (need codec o) (λ z. e (omega (arith, z))) in
    rw none refl

ended : (codec : Codec) (ws : List (List ℕ)) (o : ℕ) (front : List ℕ) (x : ℕ) → length (front ++ x ∷ []) + 1 ≡ need codec o
    → with_octet codec (state ws (o ∷ front)) x ≡ state (ws ++ (o ∷ front ++ x ∷ []) ∷ []) []
ended codec ws o front x e =
    let whole : is_unit codec (o ∷ front ++ x ∷ []) ≡ true = eq-eqb (suc (length (front ++ x ∷ []))) (need codec o) (omega (arith, e)) in
    rw whole refl

-- the last octets of a frame
finish : (codec : Codec) (ws : List (List ℕ)) (o : ℕ) (front : List ℕ) (x : ℕ) (xs : List ℕ) → length front + length xs + 2 ≡ need codec o
    → fold (with_octet codec) (state ws (o ∷ front)) (x ∷ xs) ≡ state (ws ++ (o ∷ front ++ x ∷ xs) ∷ []) []
finish codec ws o front x [] e = ended codec ws o front x (let l = length-append front (x ∷ []) in omega (arith, l, e))
finish codec ws o front x (y ∷ xs) e =
    let l = length-append front (x ∷ []) in
    ap (λ (u : Units). fold (with_octet codec) u (y ∷ xs)) (kept codec ws o front x (λ z. omega (arith, l, e, z)))
    ∙ finish codec ws o (front ++ x ∷ []) y xs (omega (arith, l, e))
    ∙ ap (λ (p : List ℕ). state (ws ++ (o ∷ p) ∷ []) []) (append_assoc front (x ∷ []) (y ∷ xs))

-- a frame
one : (codec : Codec) (ws : List (List ℕ)) (u : List ℕ) → is_unit codec u ≡ true → fold (with_octet codec) (state ws []) u ≡ state (ws ++ u ∷ []) []
one codec ws [] e = let z = eqb-true 0 (1 + octets_in codec (unit_type [])) e in absurd (omega (arith, z))
one codec ws (o ∷ []) e = rw e refl
one codec ws (o ∷ x ∷ xs) e =
    let l : suc (suc (length xs)) ≡ need codec o = eqb-true (suc (suc (length xs))) (need codec o) e in
    let none : is_unit codec (o ∷ []) ≡ false = ne_eqb 1 (need codec o) (λ z. omega (arith, l, z)) in
    let first : with_octet codec (state ws []) o ≡ state ws (o ∷ []) = rw none refl in
    ap (λ (v : Units). fold (with_octet codec) v (x ∷ xs)) first ∙ finish codec ws o [] x xs (omega (arith, l))

-- frames, one behind the other, behind others
pub all : (codec : Codec) (ws us : List (List ℕ)) → AllByRecursion (λ u. is_unit codec u ≡ true) us → fold (with_octet codec) (state ws []) (octets_of us) ≡ state (ws ++ us) []
all codec ws [] h = ap (λ v. state v []) (sym (append-nil ws))
all codec ws (u ∷ us) h =
    fold-append (with_octet codec) (state ws []) u (octets_of us)
    ∙ ap (λ (v : Units). fold (with_octet codec) v (octets_of us)) (one codec ws u h.0)
    ∙ all codec (ws ++ u ∷ []) us h.1 ∙ ap (λ v. state v []) (append_assoc ws (u ∷ []) us)

pub units_are : (codec : Codec) (us : List (List ℕ)) → AllByRecursion (λ u. is_unit codec u ≡ true) us → units codec (octets_of us) ≡ state us []
units_are codec us h = all codec [] us h

-- what the fold finds: the octets are those of whole frames, and what is left
pub record Holds (codec : Codec) (octets : List ℕ) (v : Units) : Type 0 where
  pub join : octets ≡ octets_of v.whole ++ v.rest
  pub whole : AllByRecursion (λ u. is_unit codec u ≡ true) v.whole

all_push : (codec : Codec) (us : List (List ℕ)) (u : List ℕ) → AllByRecursion (λ v. is_unit codec v ≡ true) us → is_unit codec u ≡ true → AllByRecursion (λ v. is_unit codec v ≡ true) (us ++ u ∷ [])
all_push codec [] u h e = (e, tt)
all_push codec (v ∷ us) u h e = (h.0, all_push codec us u h.1 e)

one_octet : (codec : Codec) (octets : List ℕ) (v : Units) (x : ℕ) → Holds codec octets v → Holds codec (octets ++ x ∷ []) (with_octet codec v x)
one_octet codec octets v x h =
    let rest = v.rest ++ x ∷ [] in
    let j : octets ++ x ∷ [] ≡ octets_of v.whole ++ rest = ap (λ t. t ++ x ∷ []) h.join ∙ append_assoc (octets_of v.whole) v.rest (x ∷ []) in
    elim (is_unit codec rest) as (λ b. is_unit codec rest ≡ b → Holds codec (octets ++ x ∷ []) (cond b (state (v.whole ++ rest ∷ []) []) (state v.whole rest))) [
      | true ↦ λ e.
          let f : octets_of (v.whole ++ rest ∷ []) ++ [] ≡ octets_of v.whole ++ rest =
          append-nil (octets_of (v.whole ++ rest ∷ [])) ∙ flat_map-append (λ (u : List ℕ). u) v.whole (rest ∷ []) ∙ ap (λ t. octets_of v.whole ++ t) (append-nil rest) in
          record { join = j ∙ sym f; whole = all_push codec v.whole rest h.whole e }
      | false ↦ λ e. record { join = j; whole = h.whole }
    ] refl

pub holds_from : (codec : Codec) (before xs : List ℕ) (v : Units) → Holds codec before v → Holds codec (before ++ xs) (fold (with_octet codec) v xs)
holds_from codec before [] v h = subst (λ t. Holds codec t v) (sym (append-nil before)) h
holds_from codec before (x ∷ xs) v h =
    subst (λ t. Holds codec t (fold (with_octet codec) (with_octet codec v x) xs)) (append_assoc before (x ∷ []) xs)
    (holds_from codec (before ++ x ∷ []) xs (with_octet codec v x) (one_octet codec before v x h))

pub units_hold : (codec : Codec) (octets : List ℕ) → Holds codec octets (units codec octets)
units_hold codec octets = holds_from codec [] octets (state [] []) (record { join = refl; whole = tt })
