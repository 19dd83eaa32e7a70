-- What the front of a file shows stays, and so do its whole blocks.
use Rattle.std.proofs.Common.{◌≡◌, ℕ, zero, suc, ◌+◌, ◌*◌, ◌/◌, ◌%◌, ◌≤◌, Bool, true, false, not, ◌||◌, cond, ltb, List, [], ◌∷◌, ◌++◌, length, map, take, drop, sym, refl, ap, ◌∙◌, append_assoc, arith, Option, Some, None, inl, inr, ◌⊎◌}
use Rattle.std.specs.Prelude.{◌&&◌, nat_eq, bytes_eq, position, slice_index}
use Rattle.std.specs.List.{position_or_len, range_with_len}
use Rattle.std.specs.Option.{option_map, unwrap_or}
use Rattle.std.proofs.lemmas.Bool.{cases_lt, eq-eqb, ltb-false}
use Rattle.std.proofs.lemmas.List.{length-append, length-take, length-drop, take-append-drop, take-append-le, take-take, map-append}
use Rattle.std.proofs.Math.Seq.{take-append_seam}
use Rattle.std.proofs.lemmas.Nat.{div-mul-add, div-add-mod'}
use Rattle.amr_frame.specs.declared.codec.Codec.{Codec}
use Rattle.amr_frame.specs.First.{when, first}
use Rattle.amr_frame.specs.Frames.{Frame}
use Rattle.amr_frame.proofs.FirstLemmas.{or_false}
use Rattle.spec_store.specs.StorageFile.{single, multi}
use Rattle.spec_store.specs.StorageReading.{Units, begins_with, blocks_in, blocks_of, channels_told, cut_refusal, first_reserved, frame_in, frames_in, has_header, has_header_of, has_magic, header_len, is_front_of, is_reserved_unit, may_have_magic, shown_refusal, store_refusal, unit_place, unit_type, units, units_in}
use Rattle.refusals.specs.declared.store.StoreRefusal.{StoreRefusal}
use Rattle.refusals.specs.declared.store.StoreRefusal.TheVariants as why
use Rattle.store_laws.proofs.Blocked.{block_first}
use Rattle.store_laws.proofs.Headers.{and_true, not_true, same_bytes}
use Rattle.store_laws.proofs.Longer.{IsFront, longer, units_longer, reserved_stays}

bytes_same : (xs : List ℕ) → bytes_eq xs xs ≡ true
bytes_same [] = refl
bytes_same (x ∷ xs) = ap (λ b. b && bytes_eq xs xs) (eq-eqb x x refl) ∙ bytes_same xs

-- a magic number at the front of more octets was there, or had begun
begun : (magic file more : List ℕ) → begins_with magic (file ++ more) ≡ true → (begins_with magic file ≡ true) ⊎ (is_front_of magic file ≡ true)
begun magic file more e =
    let n = length magic in
    let whole : magic ≡ take n (file ++ more) = same_bytes magic (take n (file ++ more)) e in
    elim (cases_lt (length file) n) [
      | inl l ↦ inr (
          let l' = length-append file more in
          let front : take (length file) magic ≡ file =
          ap (take (length file)) whole ∙ take-take (length file) n (file ++ more) (omega (arith, l)) ∙ take-append_seam file more in
          ap (bytes_eq file) front ∙ bytes_same file)
      | inr l ↦ inl (ap (bytes_eq magic) (sym (take-append-le n file more (omega (arith, l))) ∙ sym whole) ∙ bytes_same magic)
    ]

front_before : (magic file more : List ℕ) → is_front_of magic (file ++ more) ≡ true → is_front_of magic file ≡ true
front_before magic file more e =
    let n = length (file ++ more) in
    let l = length-append file more in
    let whole : file ++ more ≡ take n magic = same_bytes (file ++ more) (take n magic) e in
    let front : file ≡ take (length file) magic =
    sym (take-append_seam file more) ∙ ap (take (length file)) whole ∙ take-take (length file) n magic (omega (arith, l)) in
    ap (bytes_eq file) (sym front) ∙ bytes_same file

is_false : (b : Bool) → (b ≡ true → ⊥) → b ≡ false
is_false true h = absurd (h refl)
is_false false h = refl

not_both : (b : Bool) → b ≡ true → b ≡ false → ⊥
not_both true e f = absurd cc
not_both false e f = absurd cc

or_none : (a b : Bool) → a ≡ false → b ≡ false → (a || b) ≡ false
or_none a b e f = rw e f

-- no magic number is there or may come, for one of them
record NoMagic (magic file : List ℕ) : Type 0 where
  begins : begins_with magic file ≡ false
  front : is_front_of magic file ≡ false

no_magic_more : (magic file more : List ℕ) → NoMagic magic file → NoMagic magic (file ++ more)
no_magic_more magic file more h = record {
  begins = is_false (begins_with magic (file ++ more)) (λ e. elim (begun magic file more e) [
    | inl b ↦ not_both (begins_with magic file) b h.begins
    | inr f ↦ not_both (is_front_of magic file) f h.front
  ]);
  front = is_false (is_front_of magic (file ++ more)) (λ e. not_both (is_front_of magic file) (front_before magic file more e) h.front);
}

-- the test of the magic number stays
magic_stays : (codec : Codec) (file more : List ℕ) → (not (has_magic codec file) && not (may_have_magic codec file)) ≡ true → (not (has_magic codec (file ++ more)) && not (may_have_magic codec (file ++ more))) ≡ true
magic_stays codec file more e =
    let p = and_true (not (has_magic codec file)) (not (may_have_magic codec file)) e in
    let has = or_false (begins_with (single codec) file) (begins_with (multi codec) file) (not_true (has_magic codec file) p.0) in
    let may = or_false (is_front_of (single codec) file) (is_front_of (multi codec) file) (not_true (may_have_magic codec file) p.1) in
    let s = no_magic_more (single codec) file more (record { begins = has.0; front = may.0 }) in
    let m = no_magic_more (multi codec) file more (record { begins = has.1; front = may.1 }) in
    let has' = or_none (begins_with (single codec) (file ++ more)) (begins_with (multi codec) (file ++ more)) s.begins m.begins in
    let may' = or_none (is_front_of (single codec) (file ++ more)) (is_front_of (multi codec) (file ++ more)) s.front m.front in
    λ i. not (has' i) && not (may' i)

-- the three rules that octets show
abbrev magic_rule : Codec → List ℕ → Option StoreRefusal
magic_rule codec file = when (not (has_magic codec file) && not (may_have_magic codec file)) why.Magic

abbrev channels_rule : Codec → ℕ → List ℕ → Option StoreRefusal
channels_rule codec channels file = when (has_header codec file && not (nat_eq (channels_told codec file) channels)) (why.Channels (channels_told codec file))

abbrev reserved_at : Codec → List ℕ → ℕ → StoreRefusal
reserved_at codec file k = why.Reserved (unit_place codec file k) (slice_index (map unit_type (units_in codec file).whole) k)

abbrev reserved_rule : Codec → List ℕ → Option StoreRefusal
reserved_rule codec file = option_map (reserved_at codec file) (first_reserved codec (units_in codec file).whole)

-- behind a whole header the first rule isn't broken
header_has_magic : (codec : Codec) (file : List ℕ) → has_header codec file ≡ true → magic_rule codec file ≡ None
header_has_magic codec file h =
    let m = (and_true (has_magic codec file) (not (ltb (length file) (header_len codec file))) h).0 in
    ap (λ v. when (not v && not (may_have_magic codec file)) why.Magic) m

-- by the header
with_header : (codec : Codec) (channels : ℕ) (file more : List ℕ) (r : StoreRefusal) → has_header codec file ≡ true
    → first (channels_rule codec channels file ∷ reserved_rule codec file ∷ []) ≡ Some r → shown_refusal codec channels (file ++ more) ≡ Some r
with_header codec channels file more r h e =
    let l = longer codec file more h in
    let all = file ++ more in
    let has = l.headed.has in
    let told = l.headed.told in
    let m = header_has_magic codec all has in
    elim (nat_eq (channels_told codec file) channels) as (λ v. nat_eq (channels_told codec file) channels ≡ v → shown_refusal codec channels all ≡ Some r) [
      | false ↦ λ n.
          let here : first (channels_rule codec channels file ∷ reserved_rule codec file ∷ []) ≡ Some (why.Channels (channels_told codec file)) =
          (λ i. first (when (h i && not (n i)) (why.Channels (channels_told codec file)) ∷ reserved_rule codec file ∷ [])) in
          let c : channels_rule codec channels all ≡ Some (why.Channels (channels_told codec file)) =
          (λ i. when (has i && not (nat_eq (told i) channels)) (why.Channels (told i))) ∙ ap (λ v. when (not v) (why.Channels (channels_told codec file))) n in
          (λ i. first (m i ∷ c i ∷ reserved_rule codec all ∷ [])) ∙ sym here ∙ e
      | true ↦ λ n.
          let here : first (channels_rule codec channels file ∷ reserved_rule codec file ∷ []) ≡ first (reserved_rule codec file ∷ []) =
          (λ i. first (when (h i && not (n i)) (why.Channels (channels_told codec file)) ∷ reserved_rule codec file ∷ [])) in
          let c : channels_rule codec channels all ≡ None =
          (λ i. when (has i && not (nat_eq (told i) channels)) (why.Channels (channels_told codec all))) ∙ ap (λ v. when (not v) (why.Channels (channels_told codec all))) n in
          elim (first_reserved codec (units_in codec file).whole) as (λ o. first_reserved codec (units_in codec file).whole ≡ o → first (option_map (reserved_at codec file) o ∷ []) ≡ Some r → shown_refusal codec channels all ≡ Some r) [
            | None ↦ λ p q. absurd cc
            | Some k ↦ λ p q.
                let s = reserved_stays codec file more k h p in
                let t : reserved_rule codec all ≡ Some (reserved_at codec file k) = ap (option_map (reserved_at codec all)) s.0 ∙ ap (λ x. Some x) s.1 in
                (λ i. first (m i ∷ c i ∷ t i ∷ [])) ∙ q
          ] refl (sym here ∙ e)
    ] refl

pub shown_more : (codec : Codec) (channels : ℕ) (file more : List ℕ) (r : StoreRefusal) → shown_refusal codec channels file ≡ Some r → shown_refusal codec channels (file ++ more) ≡ Some r
shown_more codec channels file more r h =
    let all = file ++ more in
    let t = not (has_magic codec file) && not (may_have_magic codec file) in
    elim t as (λ v. t ≡ v → shown_refusal codec channels all ≡ Some r) [
      | true ↦ λ e.
          let here : shown_refusal codec channels file ≡ Some why.Magic = ap (λ v. first (when v why.Magic ∷ channels_rule codec channels file ∷ reserved_rule codec file ∷ [])) e in
          ap (λ v. first (when v why.Magic ∷ channels_rule codec channels all ∷ reserved_rule codec all ∷ [])) (magic_stays codec file more e) ∙ sym here ∙ h
      | false ↦ λ e.
          let rest : first (channels_rule codec channels file ∷ reserved_rule codec file ∷ []) ≡ Some r =
          ap (λ v. first (when v why.Magic ∷ channels_rule codec channels file ∷ reserved_rule codec file ∷ [])) (sym e) ∙ h in
          elim (has_header codec file) as (λ v. has_header codec file ≡ v → shown_refusal codec channels all ≡ Some r) [
            | true ↦ λ f. with_header codec channels file more r f rest
            | false ↦ λ f.
                let none : units_in codec file ≡ record { whole = []; rest = [] } = ap (λ v. units codec (cond v (drop (header_len codec file) file) [])) f in
                let c : channels_rule codec channels file ≡ None = ap (λ v. when (v && not (nat_eq (channels_told codec file) channels)) (why.Channels (channels_told codec file))) f in
                let d : reserved_rule codec file ≡ None = ap (λ (u : Units). option_map (reserved_at codec file) (first_reserved codec u.whole)) none in
                let z : None ≡ Some r = (λ i. first (sym c i ∷ sym d i ∷ [])) ∙ rest in
                absurd cc
          ] refl
    ] refl

pub shown_stays : (codec : Codec) (channels : ℕ) (file more : List ℕ) (r : StoreRefusal) → shown_refusal codec channels file ≡ Some r → store_refusal codec channels (file ++ more) ≡ Some r
shown_stays codec channels file more r h = ap (λ s. first (s ∷ cut_refusal codec channels (file ++ more) ∷ [])) (shown_more codec channels file more r h)

-- units before the first of a reserved type
abbrev before : Codec → List (List ℕ) → List (List ℕ)
before codec us = take (unwrap_or (first_reserved codec us) (length us)) us

to_position : {X : Type 0} (p : X → Bool) (xs : List X) → position_or_len p xs ≤ length xs → unwrap_or (position p xs) (length xs) ≡ position_or_len p xs
to_position p xs most =
    let n = position_or_len p xs in
    elim (ltb n (length xs)) as (λ v. ltb n (length xs) ≡ v → unwrap_or (cond v (Some n) None) (length xs) ≡ n) [
      | true ↦ λ e. refl
      | false ↦ λ e. (let l = ltb-false n (length xs) e in omega (arith, l, most))
    ] refl

most_passes : {X : Type 0} (p : X → Bool) (xs : List X) → position_or_len p xs ≤ length xs
most_passes p [] = omega arith
most_passes p (x ∷ xs) =
    elim (p x) as (λ v. cond (not v) (1 + position_or_len p xs) 0 ≤ suc (length xs)) [ true ↦ omega arith | false ↦ (let r = most_passes p xs in omega (arith, r)) ]

before_more : {X : Type 0} (p : X → Bool) (xs ys : List X) → IsFront (take (position_or_len p xs) xs) (take (position_or_len p (xs ++ ys)) (xs ++ ys))
before_more p [] ys = (take (position_or_len p ys) ys, refl)
before_more p (x ∷ xs) ys =
    elim (p x) as (λ v. IsFront (take (cond (not v) (1 + position_or_len p xs) 0) (x ∷ xs)) (take (cond (not v) (1 + position_or_len p (xs ++ ys)) 0) (x ∷ xs ++ ys))) [
      | true ↦ ([], refl)
      | false ↦ (let r = before_more p xs ys in (
        r.0,
        ap (λ n. take n (x ∷ xs ++ ys)) (let z : 1 + position_or_len p (xs ++ ys) ≡ suc (position_or_len p (xs ++ ys)) = omega arith in z) ∙ ap (λ l. x ∷ l) r.1 ∙ ap (λ n. take n (x ∷ xs) ++ r.0) (let z : suc (position_or_len p xs) ≡ 1 + position_or_len p xs = omega arith in z),
      ))
    ]

frames_longer : (codec : Codec) (file more : List ℕ) → has_header codec file ≡ true → IsFront (frames_in codec file) (frames_in codec (file ++ more))
frames_longer codec file more h =
    let p = is_reserved_unit codec in
    let us = (units_in codec file).whole in
    let g = units_longer codec file more h in
    let all = us ++ g.0 in
    let r = before_more p us g.0 in
    let few : before codec us ≡ take (position_or_len p us) us = ap (λ n. take n us) (to_position p us (most_passes p us)) in
    let many : before codec all ≡ take (position_or_len p all) all = ap (λ n. take n all) (to_position p all (most_passes p all)) in (
      map (frame_in codec) r.0,
      ap (λ u. map (frame_in codec) (before codec u)) g.1 ∙ ap (map (frame_in codec)) (many ∙ r.1 ∙ ap (λ u. u ++ r.0) (sym few)) ∙ map-append (frame_in codec) (before codec us) r.0,
    )

-- the whole blocks of more frames
blocks_longer : (c n : ℕ) (xs ys : List Frame) → 1 ≤ c → length xs / c ≡ n → IsFront (blocks_of c xs) (blocks_of c (xs ++ ys))
blocks_longer c zero xs ys one e = (
  blocks_of c (xs ++ ys),
  ap (λ bs. bs ++ blocks_of c (xs ++ ys)) (sym (ap (λ k. map (λ j. Rattle.amr_bits.specs.Bits.part (j * c) c xs) (range_with_len 0 k)) e)),
)
blocks_longer c (suc n) xs ys one e =
    let x = take c xs in let rest = drop c xs in
    let d = div-add-mod' (length xs) c in
    let row : suc n * c + length xs % c ≡ length xs = (ap (λ k. k * c + length xs % c) (sym e) ∙ omega (arith, d)) in
    let m = Rattle.std.proofs.lemmas.Nat.mod_below (length xs) c one in
    let lx : length x ≡ c = length-take c xs ∙ omega (arith, row) in
    let lr : length rest ≡ n * c + length xs % c = length-drop c xs ∙ omega (arith, row) in
    let r = blocks_longer c n rest ys one (ap (λ k. k / c) lr ∙ div-mul-add n c (length xs % c) m) in
    let split : xs ≡ x ++ rest = sym (take-append-drop c xs) in (
      r.0,
      ap (λ l. blocks_of c (l ++ ys)) split ∙ ap (blocks_of c) (append_assoc x rest ys) ∙ block_first c x (rest ++ ys) one lx
          ∙ ap (λ bs. x ∷ bs) r.1 ∙ ap (λ bs. bs ++ r.0) (sym (ap (blocks_of c) split ∙ block_first c x rest one lx)),
    )

pub blocks_stay : (codec : Codec) (channels : ℕ) (file more : List ℕ) → 1 ≤ channels → IsFront (blocks_in codec channels file) (blocks_in codec channels (file ++ more))
blocks_stay codec channels file more one =
    let all = file ++ more in
    let bs = blocks_of channels (frames_in codec file) in
    elim (has_header_of codec channels file) as (λ v. has_header_of codec channels file ≡ v → IsFront (cond v bs []) (blocks_in codec channels all)) [
      | false ↦ λ e. (blocks_in codec channels all, refl)
      | true ↦ λ e.
          let p = and_true (has_header codec file) (nat_eq (channels_told codec file) channels) e in
          let l = longer codec file more p.0 in
          let has = l.headed.has in
          let told = l.headed.told in
          let right : has_header_of codec channels all ≡ true = (λ i. has i && nat_eq (told i) channels) ∙ p.1 in
          let f = frames_longer codec file more p.0 in
          let r = blocks_longer channels (length (frames_in codec file) / channels) (frames_in codec file) f.0 one refl in
          (r.0, ap (λ v. cond v (blocks_of channels (frames_in codec all)) []) right ∙ ap (blocks_of channels) f.1 ∙ r.1)
    ] refl
