-- Lists of cells, and what they hold.
use Rattle.std.proofs.Common.{ℕ, zero, suc, ◌<◌, ◌≡◌, Bool, true, false, cond, List, [], ◌∷◌, ◌++◌, length, drop, replicate, set, slice_get, refl, sym, ap, ◌∙◌, arith, Some, None}
use Rattle.std.specs.Prelude.{is_some}
use Rattle.std.specs.List.{AllByRecursion}
use Rattle.amr_frame.specs.declared.cell.Cell.{Cell}
use Rattle.amr_frame.specs.declared.codec.Codec.{Codec}
use Rattle.amr_frame.specs.Blocks.{frames_of}
use Rattle.amr_frame.specs.Cells.{IsCell, IsCellBy, frame_of, held}
use Rattle.amr_frame.specs.Frames.{no_data}
use Rattle.amr_playout.specs.Ring.{IsFull, KeepsRing}
use Rattle.amr_playout.specs.Window.{held_of, item}
use Rattle.circular_buffer.specs.Buffer.{Buffer}

pub held-replicate : (n : ℕ) (x : Cell) → held x ≡ None → held_of (replicate n x) ≡ replicate n None
held-replicate zero x e = refl
held-replicate (suc n) x e = ap (λ o. o ∷ held_of (replicate n x)) e ∙ ap (λ os. None ∷ os) (held-replicate n x e)

pub held-append : (xs ys : List Cell) → held_of (xs ++ ys) ≡ held_of xs ++ held_of ys
held-append [] ys = refl
held-append (x ∷ xs) ys = ap (λ os. held x ∷ os) (held-append xs ys)

pub held-drop : (n : ℕ) (xs : List Cell) → held_of (drop n xs) ≡ drop n (held_of xs)
held-drop zero xs = refl
held-drop (suc n) [] = refl
held-drop (suc n) (x ∷ xs) = held-drop n xs

pub held-set : (xs : List Cell) (i : ℕ) (x : Cell) → held_of (set xs i x) ≡ set (held_of xs) i (held x)
held-set [] i x = refl
held-set (y ∷ xs) zero x = refl
held-set (y ∷ xs) (suc i) x = ap (λ os. held y ∷ os) (held-set xs i x)

pub present_some : (x : Cell) → is_some (held x) ≡ x.present
present_some x = elim x.present as (λ b. is_some (cond b (Some (frame_of x)) None) ≡ b) [ true ↦ refl | false ↦ refl ]

pub all-replicate : (P : Cell → Type 0) (n : ℕ) (x : Cell) → P x → AllByRecursion P (replicate n x)
all-replicate P zero x p = tt
all-replicate P (suc n) x p = (p, all-replicate P n x p)

pub all-append : (P : Cell → Type 0) (xs ys : List Cell) → AllByRecursion P xs → AllByRecursion P ys
    → AllByRecursion P (xs ++ ys)
all-append P [] ys a b = b
all-append P (x ∷ xs) ys a b = (a.0, all-append P xs ys a.1 b)

pub all-more : (P : Cell → Type 0) (xs : List Cell) (x : Cell) → AllByRecursion P xs → P x
    → AllByRecursion P (xs ++ x ∷ [])
all-more P [] x a p = (p, tt)
all-more P (y ∷ xs) x a p = (a.0, all-more P xs x a.1 p)

pub all-drop : (P : Cell → Type 0) (n : ℕ) (xs : List Cell) → AllByRecursion P xs → AllByRecursion P (drop n xs)
all-drop P zero xs a = a
all-drop P (suc n) [] a = tt
all-drop P (suc n) (x ∷ xs) a = all-drop P n xs a.1

-- a cell with no frame is of each codec
pub absent_is : (codec : Codec) (x : Cell) → x.present ≡ false → frame_of x ≡ no_data → IsCell codec x
absent_is codec x p f = by x.present p
  where
    by : (b : Bool) → b ≡ false → IsCellBy codec b (frame_of x)
    by true e = absurd cc
    by false e = f

pub length-held : (xs : List Cell) → length (held_of xs) ≡ length xs
length-held [] = refl
length-held (x ∷ xs) = ap suc (length-held xs)

pub frames-more : (xs : List Cell) (x : Cell) → frames_of (xs ++ x ∷ []) ≡ frames_of xs ++ frame_of x ∷ []
frames-more [] x = refl
frames-more (y ∷ xs) x = ap (λ fs. frame_of y ∷ fs) (frames-more xs x)

-- the cell at a place of the list
pub slot : (xs : List Cell) (i : ℕ) (x : Cell) → Some x ≡ slice_get xs i → item (held_of xs) i ≡ held x
slot [] i x e = absurd cc
slot (y ∷ xs) zero x e = (let f : y ≡ x = cc in ap held f)
slot (y ∷ xs) (suc i) x e = slot xs i x e

pub no_slot : {Z : Type 0} (xs : List Cell) (i : ℕ) → None ≡ slice_get xs i → i < length xs → Z
no_slot [] i e h = absurd (omega arith)
no_slot (y ∷ xs) zero e h = absurd cc
no_slot (y ∷ xs) (suc i) e h = no_slot xs i e (omega arith)

pub present_held : (x : Cell) → x.present ≡ true → held x ≡ Some (frame_of x)
present_held x p = ap (λ b. cond b (Some (frame_of x)) None) p

-- a step that keeps a ring leaves a full one full
pub still_full : (codec : Codec) (old new : Buffer Cell) → IsFull codec old → KeepsRing codec old new → IsFull codec new
still_full codec old new full kept = record {
  full = kept.size ∙ full.full ∙ sym kept.capacity;
  valid = kept.valid;
}
