-- What stands first in octets: a frame, less than one, or one of a reserved type.
use Rattle.std.proofs.Common.{◌≡◌, ℕ, zero, suc, ◌+◌, ◌*◌, ◌/◌, ◌%◌, ◌<◌, ◌≤◌, Bool, true, false, cond, ltb, List, [], ◌∷◌, ◌++◌, length, take, drop, get_or, sym, subst, refl, ap, ◌∙◌, arith}
use Rattle.std.specs.Prelude.{◌^◌, nat_eq}
use denote.Enum.Bare.{sameb}
use Rattle.amr_frame.specs.contracts.codec.Kind.{the_type}
use Rattle.std.proofs.lemmas.Bool.{eq-eqb, ltb-true}
use Rattle.std.proofs.lemmas.List.{append-nil, length-append, length-drop, length-take-le, take-append-drop}
use Rattle.std.proofs.lemmas.List.Concat.{flat_map-append}
use Rattle.std.proofs.Math.Seq.{take-add}
use Rattle.std.specs.List.{flat_map}
use Rattle.amr_bits.proofs.Lists.{all_append}
use Rattle.amr_bits.specs.Bits.{number_at}
use Rattle.amr_bits.proofs.Places.{number_at-octet, number_at-within}
use Rattle.amr_frame.specs.declared.codec.Codec.{Codec}
use Rattle.amr_frame.specs.declared.codec.Codec.TheVariants.{Amr, AmrWb}
use Rattle.amr_frame.specs.declared.codec.Kind.{Kind}
use Rattle.amr_frame.specs.declared.codec.Kind.TheVariants.{Speech, Sid, Lost, Empty, Reserved}
use Rattle.amr_frame.specs.Tables.{Row, rows, bits_in, is_reserved, octets_in}
use Rattle.spec_store.specs.StorageReading.{is_reserved_unit, is_unit, unit_type}
use Rattle.amr_store.specs.Sights.{HoldsFrame, HoldsFrames, HoldsPart, HoldsReserved}

-- whether no row has more than 477 bits
abbrev few_bits : List Row → Bool
few_bits [] = true
few_bits (r ∷ rs) = cond (ltb r.bits 478) (few_bits rs) false

-- what both of two tests say
both : (a b : Bool) → cond a b false ≡ true → (a ≡ true) × (b ≡ true)
both true b e = (refl, e)
both false b e = absurd cc

bound : (rs : List Row) (k : ℕ) (r : Row) → r.bits ≤ 477 → few_bits rs ≡ true → (get_or rs k r).bits ≤ 477
bound [] k r h e = h
bound (x ∷ rs) zero r h e = let t = ltb-true x.bits 478 (both (ltb x.bits 478) (few_bits rs) e).0 in omega arith
bound (x ∷ rs) (suc k) r h e = bound rs k r h (both (ltb x.bits 478) (few_bits rs) e).1

most_bits : (codec : Codec) (ft : ℕ) → bits_in codec ft ≤ 477
most_bits Amr ft = bound (rows Amr) ft (record { kind = Reserved; bits = 0; class_a = 0 }) (omega arith) refl
most_bits AmrWb ft = bound (rows AmrWb) ft (record { kind = Reserved; bits = 0; class_a = 0 }) (omega arith) refl

-- the octets of a frame are at most 60
pub most_octets : (codec : Codec) (ft : ℕ) → octets_in codec ft ≤ 60
most_octets codec ft = let b = most_bits codec ft in omega arith

-- the type in a frame's first octet
pub type_in : (o : ℕ) (rest : List ℕ) → o < 256 → unit_type (o ∷ rest) ≡ o / 8 % 16
type_in o rest small =
    let octet : number_at (o ∷ rest) (8 * 0) 8 ≡ o = number_at-octet (o ∷ rest) 0 small in
    number_at-within (o ∷ rest) 0 8 1 4 3 refl ∙ ap (λ n. n / 2 ^ 3 % 2 ^ 4) octet

-- a kind is that of reserved types, or not
pub same_kind : (kind : Kind) (b : Bool) → b ≡ sameb the_type kind Reserved
    → elim kind [ Speech ↦ false | Sid ↦ false | Lost ↦ false | Empty ↦ false | Reserved ↦ true ] ≡ b
same_kind Speech b e = sym e
same_kind Sid b e = sym e
same_kind Lost b e = sym e
same_kind Empty b e = sym e
same_kind Reserved b e = sym e

-- octets that begin a frame of a reserved type
pub holds_reserved : (codec : Codec) (octets : List ℕ) → 0 < length octets → get_or octets 0 0 < 256
    → is_reserved codec (get_or octets 0 0 / 8 % 16) ≡ true → HoldsReserved codec octets (get_or octets 0 0 / 8 % 16)
holds_reserved codec [] some small e = absurd (omega arith)
holds_reserved codec (o ∷ rest) some small e =
    let type = type_in o [] small in
    record { head = o; more = rest; join = refl; type = sym type; reserved = ap (is_reserved codec) type ∙ e }

-- octets that begin with a whole frame
pub holds_frame : (codec : Codec) (octets : List ℕ) → 0 < length octets → get_or octets 0 0 < 256
    → is_reserved codec (get_or octets 0 0 / 8 % 16) ≡ false
    → 1 + octets_in codec (get_or octets 0 0 / 8 % 16) ≤ length octets
    → HoldsFrame codec octets (1 + octets_in codec (get_or octets 0 0 / 8 % 16))
holds_frame codec [] some small e room = absurd (omega arith)
holds_frame codec (o ∷ rest) some small e room =
    let ft = o / 8 % 16 in
    let n = octets_in codec ft in
    let unit = o ∷ take n rest in
    let type : unit_type unit ≡ ft = type_in o (take n rest) small in
    let size : length (take n rest) ≡ n = length-take-le n rest (omega (arith, room)) in
    let one : suc n ≡ 1 + n = omega arith in
    subst (HoldsFrame codec (o ∷ rest)) one (record {
      some = omega arith;
      most = (let m = most_octets codec ft in omega (arith, m));
      within = omega (arith, room);
      first = record {
        join = ap (λ t. o ∷ t) (sym (take-append-drop n rest));
        whole = eq-eqb (length unit) (1 + octets_in codec (unit_type unit))
            (ap suc size ∙ one ∙ ap (λ t. 1 + octets_in codec t) (sym type));
        known = ap (is_reserved codec) type ∙ e;
      };
    })

-- octets that are less than the frame that they begin
pub holds_part : (codec : Codec) (octets : List ℕ) → 0 < length octets → get_or octets 0 0 < 256
    → length octets < 1 + octets_in codec (get_or octets 0 0 / 8 % 16) → HoldsPart codec octets
holds_part codec [] some small less = absurd (omega arith)
holds_part codec (o ∷ rest) some small less =
    let ft = o / 8 % 16 in
    let type : octets_in codec (unit_type (o ∷ rest)) ≡ octets_in codec ft = ap (octets_in codec)
    (type_in o rest small) in
    let m = most_octets codec ft in
    record { part = omega (arith, type, less); few = omega (arith, m, less) }

-- octets that aren't none
pub some_by : (octets : List ℕ) → false ≡ nat_eq (length octets) 0 → 0 < length octets
some_by [] e = absurd cc
some_by (o ∷ rest) e = omega arith

-- so many frames, and one more
pub holds_more : (codec : Codec) (k n at : ℕ) (octets : List ℕ) → HoldsFrames codec k octets at
    → HoldsFrame codec (drop at octets) n
    → HoldsFrames codec (k + 1) octets (at + n)
holds_more codec k n at octets h f =
    let unit = take n (drop at octets) in
    let join : take (at + n) octets ≡ flat_map (λ (u : List ℕ). u) (h.units ++ unit ∷ []) =
    take-add at n octets ∙ ap (λ t. t ++ unit) h.are.join
    ∙ ap (λ t. flat_map (λ (u : List ℕ). u) h.units ++ t) (sym (append-nil unit))
    ∙ sym (flat_map-append (λ (u : List ℕ). u) h.units (unit ∷ [])) in
    let left = length-drop at octets in
    let room = f.within in
    let under = h.within in
    let most = f.most in
    let before = h.most in
    record {
      units = h.units ++ unit ∷ [];
      are = record {
        join = join;
        whole = all_append (λ u. is_unit codec u ≡ true) h.units (unit ∷ []) h.are.whole (f.first.whole, tt);
        known = all_append (λ u. is_reserved_unit codec u ≡ false) h.units (unit ∷ []) h.are.known (f.first.known, tt);
      };
      count = length-append h.units (unit ∷ []) ∙ ap (λ m. m + 1) h.count;
      within = omega (arith, left, room, under);
      most = omega (arith, most, before);
    }
