-- The order of two cells by their parts.
use Rattle.std.proofs.Common.{◌≡◌, ℕ, ◌<◌, Bool, true, false, cond, get_or, length, refl, sym, ap, ◌∙◌, arith, Option, Some, None}
use Rattle.std.specs.declared.cmp.Ordering.{Ordering}
use Rattle.std.specs.declared.cmp.Ordering.TheVariants.{Less, Equal, Greater}
use Rattle.std.specs.Ordering.{nat_cmp, bool_cmp, ordering_then}
use Rattle.std.specs.FinMap.{nat_cmp-IsAntisymmetric}
use Rattle.amr_bits.specs.Runs.{kept}
use Rattle.amr_frame.specs.declared.codec.Codec.{Codec}
use Rattle.amr_frame.specs.declared.codec.Kind.{Kind}
use Rattle.amr_frame.specs.declared.codec.Kind.TheVariants.{Speech, Sid, Lost, Empty, Reserved}
use Rattle.amr_frame.specs.declared.cell.Cell.{Cell}
use Rattle.amr_frame.specs.Cells.{IsCell, IsCellBy, held, frame_of}
use Rattle.amr_frame.specs.Frames.{Frame}
use Rattle.amr_frame.specs.Tables.{bits_in, kind_in}
use Rattle.amr_merge.proofs.Octets.{by_bits, higher, lower, then_assoc}
use Rattle.amr_merge.proofs.Quality.{quality_same}
use Rattle.spec_session.specs.Quality.{quality, rank}

-- a frame or none
abbrev pub where_present : Bool → Frame → Option Frame
where_present p f = cond p (Some f) None

-- the class of a frame, or 0
abbrev pub class_at : Codec → Option Frame → ℕ
class_at codec o = get_or (rank codec o) 0 0

class_by_kind : (codec : Codec) (f : Frame) (k : Kind) (q : Bool) → kind_in codec f.ft ≡ k → f.q ≡ q → 0 < class_at codec (Some f)
class_by_kind codec f Speech true e d = rw (e, d) (omega arith)
class_by_kind codec f Speech false e d = rw (e, d) (omega arith)
class_by_kind codec f Sid true e d = rw (e, d) (omega arith)
class_by_kind codec f Sid false e d = rw (e, d) (omega arith)
class_by_kind codec f Lost q e d = rw e (omega arith)
class_by_kind codec f Empty q e d = rw e (omega arith)
class_by_kind codec f Reserved q e d = rw e (omega arith)

some_class : (codec : Codec) (f : Frame) → 0 < class_at codec (Some f)
some_class codec f = class_by_kind codec f (kind_in codec f.ft) f.q refl refl

-- the order by class, type and Q alone
abbrev pub by_head : ℕ → ℕ → Frame → Frame → Ordering
by_head c d f g = ordering_then (ordering_then (nat_cmp c d) (nat_cmp f.ft g.ft)) (bool_cmp f.q g.q)

q_as_number : (a b : Bool) → nat_cmp (cond a 1 0) (cond b 1 0) ≡ bool_cmp a b
q_as_number true true = refl
q_as_number true false = refl
q_as_number false true = refl
q_as_number false false = refl

regroup : (a b c d : Ordering) → ordering_then a (ordering_then b (ordering_then c d)) ≡ ordering_then (ordering_then (ordering_then a b) c) d
regroup a b c d = sym (then_assoc a b (ordering_then c d)) ∙ sym (then_assoc (ordering_then a b) c d)

parts : (codec : Codec) (p q : Bool) (f g : Frame) → IsCellBy codec p f → IsCellBy codec q g →
    quality codec (where_present p f) (where_present q g)
    ≡ ordering_then (by_head (class_at codec (where_present p f)) (class_at codec (where_present q g)) f g) (by_bits f.bits g.bits)
parts codec true true f g h k =
    let c = nat_cmp (class_at codec (Some f)) (class_at codec (Some g)) in
    ap (λ o. ordering_then c (ordering_then (nat_cmp f.ft g.ft) (ordering_then o (by_bits f.bits g.bits)))) (q_as_number f.q g.q)
    ∙ regroup c (nat_cmp f.ft g.ft) (bool_cmp f.q g.q) (by_bits f.bits g.bits)
parts codec true false f g h k = let e : nat_cmp (class_at codec (Some f)) 0 ≡ Greater = higher (class_at codec (Some f)) 0 (some_class codec f) in rw e refl
parts codec false true f g h k = let e : nat_cmp 0 (class_at codec (Some g)) ≡ Less = lower 0 (class_at codec (Some g)) (some_class codec g) in rw e refl
parts codec false false f g h k = rw (h, k) refl

-- cells compare by class, type and Q, and then by their bits
pub by_parts : (codec : Codec) (a b : Cell) → IsCell codec a → IsCell codec b →
    quality codec (held a) (held b)
    ≡ ordering_then (by_head (class_at codec (held a)) (class_at codec (held b)) (frame_of a) (frame_of b)) (by_bits (kept a.bits) (kept b.bits))
by_parts codec a b h k = parts codec a.present b.present (frame_of a) (frame_of b) h k

then_left : (a b : Ordering) → ordering_then a b ≡ Equal → a ≡ Equal
then_left Less b e = absurd cc
then_left Equal b e = refl
then_left Greater b e = absurd cc

then_right : (a b : Ordering) → ordering_then a b ≡ Equal → b ≡ Equal
then_right Less b e = absurd cc
then_right Equal b e = e
then_right Greater b e = absurd cc

size : (codec : Codec) (p q : Bool) (f g : Frame) → IsCellBy codec p f → IsCellBy codec q g →
    by_head (class_at codec (where_present p f)) (class_at codec (where_present q g)) f g ≡ Equal → length f.bits ≡ length g.bits
size codec true true f g h k e =
    let c = nat_cmp (class_at codec (Some f)) (class_at codec (Some g)) in
    let type : f.ft ≡ g.ft = nat_cmp-IsAntisymmetric f.ft g.ft (then_right c (nat_cmp f.ft g.ft) (then_left (ordering_then c (nat_cmp f.ft g.ft)) (bool_cmp f.q g.q) e)) in
    h.size ∙ ap (bits_in codec) type ∙ sym k.size
size codec true false f g h k e = let l : nat_cmp (class_at codec (Some f)) 0 ≡ Greater = higher (class_at codec (Some f)) 0 (some_class codec f) in absurd cc
size codec false true f g h k e = let l : nat_cmp 0 (class_at codec (Some g)) ≡ Less = lower 0 (class_at codec (Some g)) (some_class codec g) in absurd cc
size codec false false f g h k e = ap (λ (x : Frame). length x.bits) (h ∙ sym k)

-- cells of one class and type have as many bits
pub same_size : (codec : Codec) (a b : Cell) → IsCell codec a → IsCell codec b →
    by_head (class_at codec (held a)) (class_at codec (held b)) (frame_of a) (frame_of b) ≡ Equal → length (kept a.bits) ≡ length (kept b.bits)
same_size codec a b h k e = size codec a.present b.present (frame_of a) (frame_of b) h k e

same_present : (p q : Bool) (f g : Frame) → where_present p f ≡ where_present q g → p ≡ q
same_present true true f g e = refl
same_present true false f g e = absurd cc
same_present false true f g e = absurd cc
same_present false false f g e = refl

same_frame : (codec : Codec) (p q : Bool) (f g : Frame) → IsCellBy codec p f → IsCellBy codec q g → where_present p f ≡ where_present q g → f ≡ g
same_frame codec true true f g h k e = cc
same_frame codec true false f g h k e = absurd cc
same_frame codec false true f g h k e = absurd cc
same_frame codec false false f g h k e = h ∙ sym k

-- cells that compare as equal are equal
pub same_cell : (codec : Codec) (a b : Cell) → IsCell codec a → IsCell codec b → (kept a.bits ≡ kept b.bits → a.bits ≡ b.bits) →
    quality codec (held a) (held b) ≡ Equal → a ≡ b
same_cell codec a b h k exact e =
    let same : held a ≡ held b = quality_same codec (held a) (held b) e in
    let p : a.present ≡ b.present = same_present a.present b.present (frame_of a) (frame_of b) same in
    let f : frame_of a ≡ frame_of b = same_frame codec a.present b.present (frame_of a) (frame_of b) h k same in
    let bits : a.bits ≡ b.bits = exact (ap (λ (x : Frame). x.bits) f) in
    λ i. record { ft = (f i).ft; q = (f i).q; present = p i; bits = bits i }
