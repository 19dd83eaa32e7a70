-- A frame of a reserved type behind whole frames is named, with its place.
use Rattle.std.proofs.Common.{◌≡◌, ℕ, zero, suc, ◌+◌, Bool, true, false, not, cond, ltb, List, [], ◌∷◌, ◌++◌, length, map, sym, refl, ap, ◌∙◌, append_assoc, arith, None, Some}
use Rattle.std.specs.Prelude.{◌&&◌, nat_eq, position, slice_index, slice_index_or}
use Rattle.std.specs.List.{fold, position_or_len, AllByRecursion}
use Rattle.std.specs.Option.{option_map}
use Rattle.std.proofs.Math.Seq.{get_or-append_seam}
use Rattle.std.proofs.lemmas.Bool.{eq-eqb, lt-ltb}
use Rattle.std.proofs.lemmas.List.{length-append, length-map, map-append}
use Rattle.std.proofs.lemmas.List.Sums.{fold-append}
use Rattle.amr_bits.proofs.Lists.{all_append}
use Rattle.amr_frame.specs.declared.codec.Codec.{Codec}
use Rattle.amr_frame.specs.declared.codec.Codec.TheVariants.{Amr, AmrWb}
use Rattle.amr_frame.specs.declared.codec.Kind.{Kind}
use Rattle.amr_frame.specs.declared.codec.Kind.TheVariants.{Speech, Sid, Lost, Empty, Reserved}
use Rattle.amr_frame.specs.First.{when, first}
use Rattle.amr_frame.specs.Tables.{Row, rows, bits_in, is_reserved, octets_in}
use Rattle.spec_store.specs.StorageReading.{Units, channels_told, first_reserved, has_magic, header_len, is_reserved_unit, is_unit, may_have_magic, shown_refusal, store_refusal, unit_place, unit_type, units_in, with_octet}
use Rattle.refusals.specs.declared.store.StoreRefusal.TheVariants as why
use Rattle.store_laws.specs.Units.{AreUnits}
use Rattle.store_laws.proofs.Behind.{units_go_on, whole_of}
use Rattle.store_laws.proofs.Cutting.{all, state}
use Rattle.store_laws.proofs.Ended.{behind_long, place_behind}
use Rattle.store_laws.proofs.Headers.{and_true}
use Rattle.store_laws.proofs.Longer.{longer}
use Rattle.store_laws.proofs.Reading.{none_passes, unrefused}
use Rattle.store_laws.proofs.Showing.{shown_more}

-- a row of the table has no bits where its type is reserved
abbrev is_free : Kind → Bool
is_free kind = elim kind [
  | Speech ↦ false
  | Sid ↦ false
  | Lost ↦ false
  | Empty ↦ false
  | Reserved ↦ true
]

abbrev HasNone : Row → Type 0
HasNone r = is_free r.kind ≡ true → r.bits ≡ 0

row_has : (xs : List Row) (i : ℕ) (d : Row) → AllByRecursion HasNone xs → HasNone d → HasNone (slice_index_or xs i d)
row_has [] i d h e = e
row_has (x ∷ xs) zero d h e = h.0
row_has (x ∷ xs) (suc i) d h e = row_has xs i d h.1 e

all_rows : (codec : Codec) → AllByRecursion HasNone (rows codec)
all_rows Amr = (λ e. cc, (λ e. cc, (λ e. cc, (λ e. cc, (λ e. cc, (λ e. cc, (λ e. cc, (λ e. cc, (λ e. cc, (λ e. refl, (λ e. refl, (λ e. refl, (λ e. refl, (λ e. refl, (λ e. refl, (λ e. cc, tt))))))))))))))))
all_rows AmrWb = (λ e. cc, (λ e. cc, (λ e. cc, (λ e. cc, (λ e. cc, (λ e. cc, (λ e. cc, (λ e. cc, (λ e. cc, (λ e. cc, (λ e. refl, (λ e. refl, (λ e. refl, (λ e. refl, (λ e. cc, (λ e. cc, tt))))))))))))))))

pub reserved_empty : (codec : Codec) (ft : ℕ) → is_reserved codec ft ≡ true → octets_in codec ft ≡ 0
reserved_empty codec ft e =
    let none : bits_in codec ft ≡ 0 = row_has (rows codec) ft (record { kind = Reserved; bits = 0; class_a = 0 }) (all_rows codec) (λ _. refl) e in
    ap Rattle.amr_bits.specs.Bits.octets_for none

-- the last of a list is the first that passes
last_passes : {X : Type 0} (p : X → Bool) (xs : List X) (y : X) → AllByRecursion (λ x. p x ≡ false) xs → p y ≡ true
    → position_or_len p (xs ++ y ∷ []) ≡ length xs
last_passes p [] y h e = ap (λ b. cond (not b) 1 0) e
last_passes p (x ∷ xs) y h e =
    let r = last_passes p xs y h.1 e in
    ap (λ b. cond (not b) (1 + position_or_len p (xs ++ y ∷ [])) 0) h.0 ∙ omega (arith, r)

pub last_found : {X : Type 0} (p : X → Bool) (xs : List X) (y : X) → AllByRecursion (λ x. p x ≡ false) xs → p y ≡ true
    → position p (xs ++ y ∷ []) ≡ Some (length xs)
last_found p xs y h e =
    let l = length-append xs (y ∷ []) in
    ap (λ n. cond (ltb n (length (xs ++ y ∷ []))) (Some n) None) (last_passes p xs y h e)
    ∙ ap (λ b. cond b (Some (length xs)) None) (lt-ltb (length xs) (length (xs ++ y ∷ [])) (omega (arith, l)))

-- as soon as its first octet stands there
named_at_once : (codec : Codec) (channels : ℕ) (file block : List ℕ) (us : List (List ℕ)) (o : ℕ) → store_refusal codec channels file ≡ None
    → AreUnits codec us block → is_reserved codec (unit_type (o ∷ [])) ≡ true
    → shown_refusal codec channels (file ++ (block ++ o ∷ [])) ≡ Some (why.Reserved (length file + length block) (unit_type (o ∷ [])))
named_at_once codec channels file block us o h u e =
    let unit = o ∷ [] in
    let all' = file ++ (block ++ unit) in
    let r = unrefused codec channels file h in
    let l = longer codec file (block ++ unit) r.has in
    let has = l.headed.has in
    let ws = whole_of codec file in
    let zs = ws ++ us in
    let is : is_unit codec unit ≡ true = eq-eqb 1 (1 + octets_in codec (unit_type unit)) (let z = reserved_empty codec (unit_type unit) e in omega (arith, z)) in
    let cut : units_in codec all' ≡ state (zs ++ unit ∷ []) [] =
    units_go_on codec channels file (block ++ unit) h
    ∙ fold-append (with_octet codec) (state ws []) block unit
    ∙ ap (λ (v : Units). fold (with_octet codec) v unit) (ap (fold (with_octet codec) (state ws [])) u.join ∙ all codec ws us u.whole)
    ∙ all codec zs (unit ∷ []) (is, tt) in
    let us' = (units_in codec all').whole in
    let none = all_append (λ v. is_reserved_unit codec v ≡ false) ws us (none_passes (is_reserved_unit codec) ws r.known) u.known in
    let found : first_reserved codec us' ≡ Some (length zs) = ap (λ (v : Units). first_reserved codec v.whole) cut ∙ last_found (is_reserved_unit codec) zs unit none e in
    let magic : has_magic codec all' ≡ true = (and_true (has_magic codec all') (not (ltb (length all') (header_len codec all'))) has).0 in
    let same : nat_eq (channels_told codec all') channels ≡ true = eq-eqb (channels_told codec all') channels (l.headed.told ∙ r.told) in
    let place : unit_place codec all' (length zs) ≡ length file + length block =
    place_behind codec file (block ++ unit) zs (unit ∷ []) [] r.has cut ∙ behind_long codec channels file block us h u in
    let type : slice_index (map unit_type us') (length zs) ≡ unit_type unit =
    ap (λ (v : Units). slice_index (map unit_type v.whole) (length zs)) cut
    ∙ ap (λ ts. slice_index ts (length zs)) (map-append unit_type zs (unit ∷ []))
    ∙ ap (slice_index (map unit_type zs ++ unit_type unit ∷ [])) (sym (length-map zs unit_type))
    ∙ get_or-append_seam (map unit_type zs) (unit_type unit) [] 0 in
    (λ i. first (when (not (magic i) && not (may_have_magic codec all')) why.Magic
    ∷ when (has i && not (same i)) (why.Channels (channels_told codec all'))
    ∷ option_map (λ k. why.Reserved (unit_place codec all' k) (slice_index (map unit_type us') k)) (found i) ∷ []))
    ∙ (λ i. Some (why.Reserved (place i) (type i)))

pub named : (codec : Codec) (channels : ℕ) (file block more : List ℕ) (us : List (List ℕ)) (o : ℕ) → store_refusal codec channels file ≡ None
    → AreUnits codec us block → is_reserved codec (unit_type (o ∷ [])) ≡ true
    → shown_refusal codec channels (file ++ (block ++ o ∷ more)) ≡ Some (why.Reserved (length file + length block) (unit_type (o ∷ [])))
named codec channels file block more us o h u e =
    let joined : (file ++ (block ++ o ∷ [])) ++ more ≡ file ++ (block ++ o ∷ more) =
    append_assoc file (block ++ o ∷ []) more ∙ ap (λ t. file ++ t) (append_assoc block (o ∷ []) more) in
    ap (shown_refusal codec channels) (sym joined) ∙ shown_more codec channels (file ++ (block ++ o ∷ [])) more _ (named_at_once codec channels file block us o h u e)
