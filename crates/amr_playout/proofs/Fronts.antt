-- The cells at the front of a ring, made present.
use Rattle.std.proofs.Common.{ℕ, zero, suc, ◌-◌, ◌≤◌, ◌≡◌, true, false, cond, List, [], ◌∷◌, ◌++◌, length, map, take, set, slice_get, refl, sym, ap, ◌∙◌, subst, arith, Some, None}
use Rattle.std.specs.List.{AllByRecursion}
use Rattle.amr_frame.specs.declared.cell.Cell.{Cell}
use Rattle.amr_frame.specs.declared.codec.Codec.{Codec}
use Rattle.amr_frame.specs.declared.codec.Codec.TheVariants.{Amr, AmrWb}
use Rattle.amr_frame.specs.Blocks.{frames_of}
use Rattle.amr_frame.specs.Cells.{IsCell, IsCellBy, frame_of, held}
use Rattle.amr_frame.specs.Frames.{IsFrame, no_data}
use Rattle.amr_playout.specs.Window.{held_of}
use Rattle.spec_session.specs.Quality.{stored}

-- NO_DATA is a frame of each codec
pub no_data_is : (codec : Codec) → IsFrame codec no_data
no_data_is Amr = record { type = omega arith; known = refl; size = refl }
no_data_is AmrWb = record { type = omega arith; known = refl; size = refl }

-- each cell has a frame of the codec, an absent one NO_DATA
frame_is : (codec : Codec) (x : Cell) → IsCell codec x → IsFrame codec (frame_of x)
frame_is codec x p = elim x.present as (λ b. IsCellBy codec b (frame_of x) → IsFrame codec (frame_of x)) [
  | true ↦ λ q. q
  | false ↦ λ q. subst (IsFrame codec) (sym q) (no_data_is codec)
] p

pub frames_are : (codec : Codec) (n : ℕ) (xs : List Cell) → AllByRecursion (IsCell codec) xs
    → AllByRecursion (IsFrame codec) (frames_of (take n xs))
frames_are codec zero xs a = tt
frames_are codec (suc n) [] a = tt
frames_are codec (suc n) (x ∷ xs) a = (frame_is codec x a.0, frames_are codec n xs a.1)

-- and it is what is stored
stored_is : (codec : Codec) (x : Cell) → IsCell codec x → frame_of x ≡ stored (held x)
stored_is codec x p =
    elim x.present as (λ b. IsCellBy codec b (frame_of x) → frame_of x ≡ stored (cond b (Some (frame_of x)) None)) [
      | true ↦ λ q. refl
      | false ↦ λ q. q
    ] p

pub frames_stored : (codec : Codec) (n : ℕ) (xs : List Cell) → AllByRecursion (IsCell codec) xs
    → frames_of (take n xs) ≡ map stored (take n (held_of xs))
frames_stored codec zero xs a = refl
frames_stored codec (suc n) [] a = refl
frames_stored codec (suc n) (x ∷ xs) a =
    ap (λ f. f ∷ frames_of (take n xs)) (stored_is codec x a.0)
    ∙ ap (λ fs. stored (held x) ∷ fs) (frames_stored codec n xs a.1)

pub frames-take : (n : ℕ) (xs : List Cell) → frames_of (take n xs) ≡ take n (frames_of xs)
frames-take zero xs = refl
frames-take (suc n) [] = refl
frames-take (suc n) (x ∷ xs) = ap (λ fs. frame_of x ∷ fs) (frames-take n xs)

pub length-front : (n : ℕ) (xs : List Cell) → n ≤ length xs → length (frames_of (take n xs)) ≡ n
length-front zero xs h = refl
length-front (suc n) [] h = absurd (omega arith)
length-front (suc n) (x ∷ xs) h = ap suc (length-front n xs (omega arith))

-- a cell in place of one with its frame
pub frames-put : (xs : List Cell) (i : ℕ) (x y : Cell) → Some x ≡ slice_get xs i → frame_of y ≡ frame_of x
    → frames_of (set xs i y) ≡ frames_of xs
frames-put [] i x y e f = refl
frames-put (z ∷ xs) zero x y e f = (let g : x ≡ z = cc in ap (λ v. v ∷ frames_of xs) (f ∙ ap frame_of g))
frames-put (z ∷ xs) (suc i) x y e f = ap (λ fs. frame_of z ∷ fs) (frames-put xs i x y e f)

-- the front of two lists behind one another, where it reaches into the second
pub take-pieces : {X : Type 0} (n : ℕ) (xs ys : List X) → length xs ≤ n
    → xs ++ take (n - length xs) ys ≡ take n (xs ++ ys)
take-pieces n [] ys h = (let all : n - 0 ≡ n = omega arith in ap (λ m. take m ys) all)
take-pieces zero (x ∷ xs) ys h = absurd (omega arith)
take-pieces (suc n) (x ∷ xs) ys h =
    let less : suc n - suc (length xs) ≡ n - length xs = omega arith in
    ap (λ m. x ∷ (xs ++ take m ys)) less ∙ ap (λ zs. x ∷ zs) (take-pieces n xs ys (omega arith))
