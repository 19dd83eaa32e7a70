-- A file with more octets: its header is the same, its units and blocks are more, and what it showed stays.
use Rattle.std.proofs.Common.{◌≡◌, ℕ, suc, ◌+◌, ◌%◌, ◌<◌, Bool, true, false, not, cond, ltb, List, [], ◌∷◌, ◌++◌, length, map, take, drop, sym, refl, ap, ◌∙◌, subst, append_assoc, arith, Some, None}
use Rattle.std.specs.Prelude.{position, slice_index, sum}
use Rattle.std.specs.List.{fold, position_or_len}
use Rattle.std.specs.Option.{unwrap_or}
use Rattle.std.proofs.lemmas.Bool.{eq-eqb, le-ltb, lt-ltb, ltb-false}
use Rattle.std.proofs.lemmas.List.{length-append, length-take, length-drop, append-nil, take-append-drop, take-append-le, get_or_append_left, map-append}
use Rattle.std.proofs.lemmas.List.Sums.{fold-append}
use Rattle.amr_frame.specs.declared.codec.Codec.{Codec}
use Rattle.amr_frame.specs.declared.codec.Codec.TheVariants.{Amr, AmrWb}
use Rattle.spec_store.specs.StorageFile.{single, multi}
use Rattle.spec_store.specs.StorageReading.{Units, channels_told, first_reserved, has_header, header_len, is_reserved_unit, is_unit, unit_place, unit_type, units, units_in, with_octet}
use Rattle.refusals.specs.declared.store.StoreRefusal.TheVariants as why
use Rattle.store_laws.proofs.Cutting.{state}
use Rattle.store_laws.proofs.Headers.{Headed, OfMany, OfOne, Spelled, one_channel, several, spelled}

-- a front of a list
abbrev pub IsFront : {X : Type 0} → List X → List X → Type 0
IsFront {X} front all = (rest : List X) × (all ≡ front ++ rest)

-- the same header in front of more
pub record Longer (codec : Codec) (file more : List ℕ) : Type 0 where
  pub headed : Headed codec (channels_told codec file) (file ++ more) (drop (header_len codec file) file ++ more)
  pub same : header_len codec (file ++ more) ≡ header_len codec file

one_long : (codec : Codec) (more : List ℕ) → header_len codec (single codec ++ more) ≡ length (single codec)
one_long Amr more = refl
one_long AmrWb more = refl

many_long : (codec : Codec) (a b c d : ℕ) (more : List ℕ) → header_len codec (multi codec ++ (a ∷ b ∷ c ∷ d ∷ more)) ≡ length (multi codec) + 4
many_long Amr a b c d more = refl
many_long AmrWb a b c d more = refl

longer_by : (codec : Codec) (file more : List ℕ) → Spelled codec file → Longer codec file more
longer_by codec file more (OfOne m e) =
    let h : Headed codec 1 file m = subst (λ f. Headed codec 1 f m) (sym e) (one_channel codec m) in
    let at : single codec ++ (m ++ more) ≡ file ++ more = sym (append_assoc (single codec) m more) ∙ ap (λ f. f ++ more) (sym e) in
    let k : Headed codec 1 (file ++ more) (m ++ more) = subst (λ f. Headed codec 1 f (m ++ more)) at (one_channel codec (m ++ more)) in
    record {
      headed = record { has = k.has; told = k.told ∙ sym h.told; left = k.left ∙ ap (λ b. b ++ more) (sym h.left) };
      same = ap (header_len codec) (sym at) ∙ one_long codec (m ++ more) ∙ sym (one_long codec m) ∙ ap (header_len codec) (sym e);
    }
longer_by codec file more (OfMany a b c d m e) =
    let h : Headed codec (d % 16) file m = subst (λ f. Headed codec (d % 16) f m) (sym e) (several codec a b c d m) in
    let at : multi codec ++ (a ∷ b ∷ c ∷ d ∷ (m ++ more)) ≡ file ++ more = sym (append_assoc (multi codec) (a ∷ b ∷ c ∷ d ∷ m) more) ∙ ap (λ f. f ++ more) (sym e) in
    let k : Headed codec (d % 16) (file ++ more) (m ++ more) = subst (λ f. Headed codec (d % 16) f (m ++ more)) at (several codec a b c d (m ++ more)) in
    record {
      headed = record { has = k.has; told = k.told ∙ sym h.told; left = k.left ∙ ap (λ b. b ++ more) (sym h.left) };
      same = ap (header_len codec) (sym at) ∙ many_long codec a b c d (m ++ more) ∙ sym (many_long codec a b c d m) ∙ ap (header_len codec) (sym e);
    }

pub longer : (codec : Codec) (file more : List ℕ) → has_header codec file ≡ true → Longer codec file more
longer codec file more h = longer_by codec file more (spelled codec file h)

-- more octets add units behind those that are whole
grows : (codec : Codec) (v : Units) (xs : List ℕ) → IsFront v.whole (fold (with_octet codec) v xs).whole
grows codec v [] = ([], sym (append-nil v.whole))
grows codec v (x ∷ xs) =
    let r = grows codec (with_octet codec v x) xs in
    let unit = v.rest ++ x ∷ [] in
    elim (is_unit codec unit) as (λ b. IsFront (cond b (state (v.whole ++ unit ∷ []) []) (state v.whole unit)).whole (fold (with_octet codec) (with_octet codec v x) xs).whole → IsFront v.whole (fold (with_octet codec) (with_octet codec v x) xs).whole) [
      | true ↦ λ f. (unit ∷ f.0, f.1 ∙ append_assoc v.whole (unit ∷ []) f.0)
      | false ↦ λ f. f
    ] r

units_grow : (codec : Codec) (a b : List ℕ) → IsFront (units codec a).whole (units codec (a ++ b)).whole
units_grow codec a b =
    let r = grows codec (units codec a) b in
    (r.0, ap (λ (u : Units). u.whole) (fold-append (with_octet codec) (state [] []) a b) ∙ r.1)

-- the units of a file with a whole header, and of a longer one
pub units_longer : (codec : Codec) (file more : List ℕ) → has_header codec file ≡ true → IsFront (units_in codec file).whole (units_in codec (file ++ more)).whole
units_longer codec file more h =
    let l = longer codec file more h in
    let body = drop (header_len codec file) file in
    let one : units_in codec file ≡ units codec body = ap (λ v. units codec (cond v body [])) h in
    let two : units_in codec (file ++ more) ≡ units codec (body ++ more) =
    ap (λ v. units codec (cond v (drop (header_len codec (file ++ more)) (file ++ more)) [])) l.headed.has ∙ ap (units codec) l.headed.left in
    let g = units_grow codec body more in
    (g.0, ap (λ (u : Units). u.whole) two ∙ g.1 ∙ ap (λ (u : Units). u.whole ++ g.0) (sym one))

-- the first that passes stays the first
stays : {X : Type 0} (p : X → Bool) (xs ys : List X) → position_or_len p xs < length xs → position_or_len p (xs ++ ys) ≡ position_or_len p xs
stays p [] ys l = absurd (omega arith)
stays p (x ∷ xs) ys l =
    elim (p x) as (λ v. cond (not v) (1 + position_or_len p xs) 0 < suc (length xs) → cond (not v) (1 + position_or_len p (xs ++ ys)) 0 ≡ cond (not v) (1 + position_or_len p xs) 0) [
      | true ↦ λ k. refl
      | false ↦ λ k. ap (λ n. 1 + n) (stays p xs ys (omega arith))
    ] l

-- what a position says
record At {X : Type 0} (p : X → Bool) (xs : List X) (k : ℕ) : Type 0 where
  is : position_or_len p xs ≡ k
  below : k < length xs

some_is : (a b : ℕ) → Some a ≡ Some b → a ≡ b
some_is a b e = ap (λ o. unwrap_or o 0) e

position_at : {X : Type 0} (p : X → Bool) (xs : List X) (k : ℕ) → position p xs ≡ Some k → At p xs k
position_at p xs k e =
    let n = position_or_len p xs in
    elim (ltb n (length xs)) as (λ v. ltb n (length xs) ≡ v → cond v (Some n) None ≡ Some k → At p xs k) [
      | true ↦ λ l f. (let same = some_is n k f in let below = Rattle.std.proofs.lemmas.Bool.ltb-true n (length xs) l in record { is = same; below = omega (arith, same, below) })
      | false ↦ λ l f. absurd cc
    ] refl e

position_stays : {X : Type 0} (p : X → Bool) (xs ys : List X) (k : ℕ) → position p xs ≡ Some k → position p (xs ++ ys) ≡ Some k
position_stays p xs ys k e =
    let a = position_at p xs k e in
    let is = a.is in let below = a.below in
    let n : position_or_len p (xs ++ ys) ≡ k = stays p xs ys (omega (arith, is, below)) ∙ is in
    let l = length-append xs ys in
    ap (λ m. cond (ltb m (length (xs ++ ys))) (Some m) None) n ∙ ap (λ b. cond b (Some k) None) (lt-ltb k (length (xs ++ ys)) (omega (arith, l, below)))

-- the same frame is at fault
pub reserved_stays : (codec : Codec) (file more : List ℕ) (k : ℕ) → has_header codec file ≡ true → first_reserved codec (units_in codec file).whole ≡ Some k
    → (first_reserved codec (units_in codec (file ++ more)).whole ≡ Some k)
    × (why.Reserved (unit_place codec (file ++ more) k) (slice_index (map unit_type (units_in codec (file ++ more)).whole) k) ≡ why.Reserved (unit_place codec file k) (slice_index (map unit_type (units_in codec file).whole) k))
reserved_stays codec file more k h e =
    let us = (units_in codec file).whole in
    let g = units_longer codec file more h in
    let l = longer codec file more h in
    let at = position_at (is_reserved_unit codec) us k e in
    let below = at.below in
    let count : length (map unit_type us) ≡ length us = Rattle.std.proofs.lemmas.List.length-map us unit_type in
    let whole = g.1 in
    let place : unit_place codec (file ++ more) k ≡ unit_place codec file k =
    (λ i. l.same i + sum (map length (take k (whole i)))) ∙ ap (λ t. header_len codec file + sum (map length t)) (take-append-le k us g.0 (omega (arith, below))) in
    let type : slice_index (map unit_type (units_in codec (file ++ more)).whole) k ≡ slice_index (map unit_type us) k =
    ap (λ u. slice_index (map unit_type u) k) whole ∙ ap (λ m. slice_index m k) (map-append unit_type us g.0)
    ∙ get_or_append_left (map unit_type us) (map unit_type g.0) 0 k (omega (arith, count, below)) in
    (ap (first_reserved codec) whole ∙ position_stays (is_reserved_unit codec) us g.0 k e, λ i. why.Reserved (place i) (type i))
