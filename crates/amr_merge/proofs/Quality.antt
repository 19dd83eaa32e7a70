-- Quality is a total order, and equal only for equal frames.
use Rattle.std.proofs.Common.{◌≡◌, ℕ, Bool, true, false, cond, List, [], ◌∷◌, map, refl, ap, arith, Option, Some, None}
use Rattle.std.specs.declared.cmp.Ordering.TheVariants.{Equal}
use Rattle.std.specs.Cmp.{IsTotalOrder, on_total}
use Rattle.std.specs.Cmp.Lexicographic.{nat_list_cmp_total}
use Rattle.std.specs.FinMap.{slice_cmp-IsAntisymmetric, nat_cmp-IsAntisymmetric}
use Rattle.amr_frame.specs.declared.codec.Codec.{Codec}
use Rattle.amr_frame.specs.Frames.{Frame}
use Rattle.spec_session.specs.Quality.{rank, quality}

-- an order by ranks that are compared as lists of numbers is total
pub quality_total : (codec : Codec) → IsTotalOrder (quality codec)
quality_total codec = on_total (rank codec) nat_list_cmp_total

-- the number of a bit
abbrev bit : Bool → ℕ
bit b = cond b 1 0

-- the number of a bit tells the bit
one_bit : (a b : Bool) → bit a ≡ bit b → a ≡ b
one_bit true true e = refl
one_bit false false e = refl
one_bit true false e = absurd (omega arith)
one_bit false true e = absurd (omega arith)

-- the numbers of bits tell the bits
same_bits : (a b : List Bool) → map bit a ≡ map bit b → a ≡ b
same_bits [] [] e = refl
same_bits [] (y ∷ b) e = absurd cc
same_bits (x ∷ a) [] e = absurd cc
same_bits (x ∷ a) (y ∷ b) e =
    let h : bit x ≡ bit y = cc in
    let t : map bit a ≡ map bit b = cc in
    λ i. one_bit x y h i ∷ same_bits a b t i

-- a frame by its parts
abbrev frame : ℕ → Bool → List Bool → Frame
frame ft q bits = record { ft = ft; q = q; bits = bits }

-- frames with equal parts are equal
same_parts : (f g : Frame) → f.ft ≡ g.ft → f.q ≡ g.q → f.bits ≡ g.bits → f ≡ g
same_parts f g a b c = λ i. frame (a i) (b i) (c i)

-- the rank tells the frame
one_rank : (codec : Codec) (a b : Option Frame) → rank codec a ≡ rank codec b → a ≡ b
one_rank codec None None e = refl
one_rank codec None (Some g) e = absurd cc
one_rank codec (Some f) None e = absurd cc
one_rank codec (Some f) (Some g) e =
    let t : f.ft ≡ g.ft = cc in
    let q : bit f.q ≡ bit g.q = cc in
    let b : map bit f.bits ≡ map bit g.bits = cc in
    ap Some (same_parts f g t (one_bit f.q g.q q) (same_bits f.bits g.bits b))

-- frames that compare as equal have equal ranks
pub quality_same : (codec : Codec) (a b : Option Frame) → quality codec a b ≡ Equal → a ≡ b
quality_same codec a b e = one_rank codec a b (slice_cmp-IsAntisymmetric nat_cmp-IsAntisymmetric (rank codec a) (rank codec b) e)
