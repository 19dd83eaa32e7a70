-- The frame that stands first in octets, and a block of frames, read into cells.
use Rattle.std.proofs.Common.{◌≡◌, ℕ, suc, ◌+◌, ◌*◌, ◌/◌, ◌%◌, ◌<◌, ◌≤◌, Bool, true, false, List, [], ◌∷◌, ◌++◌, length, map, take, drop, get_or, sym, subst, refl, ap, ◌∙◌, arith}
use Rattle.std.specs.Prelude.{nat_eq, set, IsTrue}
use Rattle.std.specs.List.{flat_map, AllByRecursion}
use Rattle.std.proofs.lemmas.Bool.{eqb-true}
use Rattle.std.proofs.lemmas.List.{append-nil, append_assoc, drop-drop, length-append, length-drop, length-map, length-set, map-append, nil_from_length, take_all, take_more_set}
use Rattle.std.proofs.Math.Seq.{drop-append_seam}
use Rattle.amr_bits.specs.Bits.{bits_at}
use Rattle.amr_bits.proofs.Lists.{all_append, split_all}
use Rattle.amr_bits.proofs.Runs.{run-append, run-rest}
use Rattle.amr_frame.specs.declared.cell.Cell.{Cell}
use Rattle.amr_frame.specs.declared.codec.Codec.{Codec}
use Rattle.amr_frame.specs.Blocks.{frames_of}
use Rattle.amr_frame.specs.Cells.{frame_of}
use Rattle.amr_frame.specs.Frames.{Frame, IsFrame}
use Rattle.amr_frame.specs.Tables.{bits_in, is_reserved, octets_in}
use Rattle.spec_store.specs.StorageReading.{frame_in, is_reserved_unit, is_unit, unit_type}
use Rattle.store_laws.specs.Units.{AreUnits}
use Rattle.amr_store.specs.Sights.{AreFrames, BeginsFrame, IsFirst, ReadsBlock, ReadsFrame}
use Rattle.amr_store.proofs.FrameFirst.{type_in}

-- a frame by its parts
abbrev pub frame_with : ℕ → Bool → List Bool → Frame
frame_with ft q bits = record { ft = ft; q = q; bits = bits }

-- the octets of a frame of a type that there is
pub record FirstIs (codec : Codec) (octets : List ℕ) : Type 0 where
  pub some : 0 < length octets
  pub known : is_reserved codec (get_or octets 0 0 / 8 % 16) ≡ false
  pub room : 8 + bits_in codec (get_or octets 0 0 / 8 % 16) ≤ 8 * length octets

unit_room : (codec : Codec) (o : ℕ) (unit more octets : List ℕ) → o < 256 → IsFirst codec octets (o ∷ unit) more
    → FirstIs codec octets
unit_room codec o unit more octets small h =
    let type : unit_type (o ∷ unit) ≡ o / 8 % 16 = type_in o unit small in
    let size : suc (length unit) ≡ 1 + octets_in codec (unit_type (o ∷ unit)) = eqb-true (suc (length unit))
    (1 + octets_in codec (unit_type (o ∷ unit))) h.whole in
    let same : octets_in codec (unit_type (o ∷ unit)) ≡ octets_in codec (o / 8 % 16) = ap (octets_in codec) type in
    let l = length-append unit more in
    subst (FirstIs codec) (sym h.join) (record {
      some = omega arith;
      known = ap (is_reserved codec) (sym type) ∙ h.known;
      room = omega (arith, size, same, l);
    })

pub first_is : (codec : Codec) (octets : List ℕ) → ((k : ℕ) → get_or octets k 0 < 256) → BeginsFrame codec octets
    → FirstIs codec octets
first_is codec octets small h = by_unit h.unit h.first
  where
    by_unit : (unit : List ℕ) → IsFirst codec octets unit h.more → FirstIs codec octets
    by_unit [] f = (let e = eqb-true 0 (1 + octets_in codec (unit_type [])) f.whole in absurd (omega (arith, e)))
    by_unit (o ∷ unit) f = unit_room codec o unit h.more octets
        (subst (λ n. n < 256) (ap (λ l. get_or l 0 0) f.join) (small 0)) f

-- it is read as the frame that its octets say
frame_by : (codec : Codec) (o : ℕ) (u more : List ℕ) → o < 256 → is_unit codec (o ∷ u) ≡ true
    → frame_with (o / 8 % 16) (nat_eq (o / 4 % 2) 1) (bits_at (o ∷ u ++ more) 8 (bits_in codec (o / 8 % 16))) ≡
    frame_in codec (o ∷ u)
frame_by codec o u more small e =
    let type : unit_type (o ∷ u) ≡ o / 8 % 16 = type_in o u small in
    let m = bits_in codec (o / 8 % 16) in
    let size : suc (length u) ≡ 1 + octets_in codec (unit_type (o ∷ u)) = eqb-true (suc (length u))
    (1 + octets_in codec (unit_type (o ∷ u))) e in
    let same : octets_in codec (unit_type (o ∷ u)) ≡ octets_in codec (o / 8 % 16) = ap (octets_in codec) type in
    let bits : bits_at (o ∷ u ++ more) 8 m ≡ bits_at (o ∷ u) 8 (bits_in codec (unit_type (o ∷ u))) =
    sym (run-rest (o ∷ u ++ more) 0 8 (8 + m) m refl)
    ∙ ap (drop 8) (run-append (o ∷ u) more (8 + m) (omega (arith, size, same)))
    ∙ run-rest (o ∷ u) 0 8 (8 + m) m refl ∙ ap (λ t. bits_at (o ∷ u) 8 (bits_in codec t)) (sym type) in
    let back = sym type in
    λ i. frame_with (back i) (nat_eq (o / 4 % 2) 1) (bits i)

pub frame_same : (codec : Codec) (octets unit more : List ℕ) (n : ℕ) → ((k : ℕ) → get_or octets k 0 < 256)
    → IsFirst codec octets unit more
    → n ≡ bits_in codec (get_or octets 0 0 / 8 % 16)
    → frame_with (get_or octets 0 0 / 8 % 16) (nat_eq (get_or octets 0 0 / 4 % 2) 1) (bits_at octets 8 n) ≡ frame_in
    codec unit
frame_same codec octets [] more n small f e = (let z = eqb-true 0 (1 + octets_in codec (unit_type [])) f.whole in
    absurd (omega (arith, z)))
frame_same codec octets (o ∷ u) more n small f e =
    let first : get_or octets 0 0 ≡ o = ap (λ l. get_or l 0 0) f.join in
    let join = f.join in
    ap (λ m. frame_with (get_or octets 0 0 / 8 % 16) (nat_eq (get_or octets 0 0 / 4 % 2) 1) (bits_at octets 8 m)) e
    ∙ (λ i. frame_with (first i / 8 % 16) (nat_eq (first i / 4 % 2) 1)
    (bits_at (join i) 8 (bits_in codec (first i / 8 % 16))))
    ∙ frame_by codec o u more (subst (λ n. n < 256) first (small 0)) f.whole

-- the frames of a block of which k stand in cells: `at` octets of it are read
pub record Filling (codec : Codec) (octets : List ℕ) (n at k : ℕ) (cells : List Cell) : Type 0 where
  pub done : List (List ℕ)
  pub left : List (List ℕ)
  pub are : AreUnits codec (done ++ left) octets
  pub here : drop at octets ≡ flat_map (λ u. u) left
  pub within : at ≤ length octets
  pub count : length done ≡ k
  pub all : length (done ++ left) ≡ n
  pub size : length cells ≡ n
  pub frames : frames_of (take k cells) ≡ map (frame_in codec) done
  pub valid : AllByRecursion (IsFrame codec) (frames_of (take k cells))
  pub present : AllByRecursion (λ (cell : Cell). IsTrue cell.present) (take k cells)

-- before the first
pub fill_start : (codec : Codec) (octets : List ℕ) (cells : List Cell) → AreFrames codec (length cells) octets
    → Filling codec octets (length cells) 0 0 cells
fill_start codec octets cells h = record {
  done = [];
  left = h.units;
  are = h.are;
  here = h.are.join;
  within = omega arith;
  count = refl;
  all = h.count;
  size = refl;
  frames = refl;
  valid = tt;
  present = tt;
}

-- a frame is left where a cell is
record Left (codec : Codec) (octets : List ℕ) (n at k : ℕ) (cells : List Cell) : Type 0 where
  done : List (List ℕ)
  unit : List ℕ
  more : List (List ℕ)
  are : AreUnits codec (done ++ unit ∷ more) octets
  first : IsFirst codec (drop at octets) unit (flat_map (λ u. u) more)
  count : length done ≡ k
  all : length (done ++ unit ∷ more) ≡ n
  size : length cells ≡ n
  frames : frames_of (take k cells) ≡ map (frame_in codec) done
  valid : AllByRecursion (IsFrame codec) (frames_of (take k cells))
  present : AllByRecursion (λ (cell : Cell). IsTrue cell.present) (take k cells)

a_frame_left : (codec : Codec) (octets : List ℕ) (n at k : ℕ) (cells : List Cell) → Filling codec octets n at k cells
    → k < n → Left codec octets n at k cells
a_frame_left codec octets n at k cells h under = by_left h.left h.are h.here h.all
  where
    by_left : (left : List (List ℕ)) → AreUnits codec (h.done ++ left) octets
        → drop at octets ≡ flat_map (λ (u : List ℕ). u) left → length (h.done ++ left) ≡ n
        → Left codec octets n at k cells
    by_left [] are here all = (let l = length-append h.done [] in let e = h.count in absurd
        (omega (arith, l, e, all, under)))
    by_left (unit ∷ more) are here all =
        let whole = split_all (λ u. is_unit codec u ≡ true) h.done (unit ∷ more) are.whole in
        let known = split_all (λ u. is_reserved_unit codec u ≡ false) h.done (unit ∷ more) are.known in
        record {
          done = h.done;
          unit = unit;
          more = more;
          are = are;
          first = record { join = here; whole = whole.1.0; known = known.1.0 };
          count = h.count;
          all = all;
          size = h.size;
          frames = h.frames;
          valid = h.valid;
          present = h.present;
        }

-- the next frame stands first in what is left
pub fill_next : (codec : Codec) (octets : List ℕ) (n at k : ℕ) (cells : List Cell) → Filling codec octets n at k cells
    → k < n → BeginsFrame codec (drop at octets)
fill_next codec octets n at k cells h under =
    let l = a_frame_left codec octets n at k cells h under in
    record { unit = l.unit; more = flat_map (λ u. u) l.more; first = l.first }

-- it takes up the octets that its type has
unit_size : (codec : Codec) (unit : List ℕ) (cell : Cell) → is_unit codec unit ≡ true
    → frame_of cell ≡ frame_in codec unit → length unit ≡ 1 + octets_in codec cell.ft
unit_size codec unit cell e f = eqb-true (length unit) (1 + octets_in codec (unit_type unit)) e
    ∙ ap (λ (g : Frame). 1 + octets_in codec g.ft) (sym f)

-- with one more
pub fill_more : (codec : Codec) (octets : List ℕ) (n at k size : ℕ) (cells : List Cell) (cell : Cell)
    → Filling codec octets n at k cells → k < n
    → ReadsFrame codec (drop at octets) cell → size ≡ octets_in codec cell.ft
    → (at + (1 + size) ≤ length octets) × Filling codec octets n (at + (1 + size)) (k + 1) (set cells k cell)
fill_more codec octets n at k size cells cell h under r e =
    let l = a_frame_left codec octets n at k cells h under in
    let frame = r.frame l.unit (flat_map (λ u. u) l.more) l.first in
    let long : length l.unit ≡ 1 + size = unit_size codec l.unit cell l.first.whole frame ∙ ap (λ m. 1 + m) (sym e) in
    let rest : drop (at + (1 + size)) octets ≡ flat_map (λ (u : List ℕ). u) l.more =
    sym (drop-drop (1 + size) at octets) ∙ ap (drop (1 + size)) l.first.join
    ∙ ap (λ m. drop m (l.unit ++ flat_map (λ (u : List ℕ). u) l.more)) (sym long)
    ∙ drop-append_seam l.unit (flat_map (λ (u : List ℕ). u) l.more) in
    let left = length-drop at octets in
    let both : length (drop at octets) ≡ length l.unit + length (flat_map (λ (u : List ℕ). u) l.more) = ap length
    l.first.join ∙ length-append l.unit (flat_map (λ (u : List ℕ). u) l.more) in
    let before = h.within in
    let room : at + (1 + size) ≤ length octets = omega (arith, left, both, long, before) in
    let size_is = l.size in
    let front : take (k + 1) (set cells k cell) ≡ take k cells ++ cell ∷ [] = take_more_set cells k cell
    (omega (arith, size_is, under)) in
    let frames : frames_of (take (k + 1) (set cells k cell)) ≡ frames_of (take k cells) ++ frame_of cell ∷ [] = ap
    frames_of front ∙ map-append frame_of (take k cells) (cell ∷ []) in
    let valid = all_append (IsFrame codec) (frames_of (take k cells)) (frame_of cell ∷ []) l.valid (r.valid, tt) in
    let present = all_append (λ (cell : Cell). IsTrue cell.present) (take k cells) (cell ∷ []) l.present
    (r.present, tt) in
    let joined : (l.done ++ l.unit ∷ []) ++ l.more ≡ l.done ++ l.unit ∷ l.more = append_assoc l.done (l.unit ∷ [])
    l.more in (
      room,
      record {
        done = l.done ++ l.unit ∷ [];
        left = l.more;
        are = subst (λ us. AreUnits codec us octets) (sym joined) l.are;
        here = rest;
        within = room;
        count = length-append l.done (l.unit ∷ []) ∙ ap (λ m. m + 1) l.count;
        all = ap length joined ∙ l.all;
        size = length-set cells k cell ∙ size_is;
        frames = frames ∙ (let a = l.frames in λ i. a i ++ frame i ∷ [])
            ∙ sym (map-append (frame_in codec) l.done (l.unit ∷ []));
        valid = subst (AllByRecursion (IsFrame codec)) (sym frames) valid;
        present = subst (AllByRecursion (λ (cell : Cell). IsTrue cell.present)) (sym front) present;
      },
    )

-- behind the last
pub fill_end : (codec : Codec) (octets : List ℕ) (n at k : ℕ) (cells : List Cell) → Filling codec octets n at k cells
    → n ≤ k → ReadsBlock codec octets cells
fill_end codec octets n at k cells h over =
    let all = h.all in let count = h.count in let size = h.size in
    let l = length-append h.done h.left in
    let none : h.left ≡ [] = nil_from_length h.left (omega (arith, all, count, l, over)) in
    let units : h.done ++ h.left ≡ h.done = ap (λ t. h.done ++ t) none ∙ append-nil h.done in
    let whole : take k cells ≡ cells = take_all k cells (omega (arith, size, over)) in
    let many = ap length units in
    record {
      units = h.done;
      are = subst (λ us. AreUnits codec us octets) units h.are;
      count = omega (arith, all, many, size);
      frames = ap frames_of (sym whole) ∙ h.frames;
      block = record {
        present = subst (AllByRecursion (λ (cell : Cell). IsTrue cell.present)) whole h.present;
        block = record {
          whole = length-map cells frame_of;
          frames = subst
              (λ cs. AllByRecursion (IsFrame codec) (frames_of cs)) whole h.valid;
        };
      };
    }
