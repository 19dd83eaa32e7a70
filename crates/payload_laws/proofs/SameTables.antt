-- Two tables of contents that the same bits have, and values with equal parts.
use Rattle.std.proofs.Common.{◌≡◌, ℕ, zero, suc, ◌*◌, ◌≤◌, Bool, true, false, List, [], ◌∷◌, ◌++◌, length, take, drop, refl, ap, subst, arith, append_assoc}
use Rattle.std.specs.List.{AllByRecursion}
use Rattle.amr_frame.specs.declared.codec.Codec.{Codec}
use Rattle.amr_bits.specs.Bits.{nat}
use Rattle.amr_bits.specs.Layout.{Mark, fixed, free}
use Rattle.amr_frame.specs.Frames.{Frame, IsFrame}
use Rattle.spec_payload.specs.Grammar.{table, entry}
use Rattle.spec_payload.specs.Values.{Value}
use Rattle.payload_laws.proofs.Entries.{entry_bits}
use Rattle.payload_laws.proofs.Marks.{Both, both_fixed, both_free, one_number}

-- frames of a codec
abbrev pub AreFrames : Codec → List Frame → Type 0
AreFrames codec fs = AllByRecursion (IsFrame codec) fs

-- the tables of two lists of frames have the same entries
abbrev pub SameHeads : List Frame → List Frame → Type 0
SameHeads [] [] = Unit {0}
SameHeads [] (g ∷ gs) = ⊥
SameHeads (f ∷ fs) [] = ⊥
SameHeads (f ∷ fs) (g ∷ gs) = (f.ft ≡ g.ft) × (f.q ≡ g.q) × SameHeads fs gs

-- two entries that the same bits have are equal, and so have the places behind them the same bits
both_entries : (codec : Codec) (gap : ℕ) (f g : Frame) (x y : Bool) (m n : List Mark) → IsFrame codec f → IsFrame codec g → Both (entry gap f x ++ m) (entry gap g y ++ n) → (x ≡ y) × (f.ft ≡ g.ft) × (f.q ≡ g.q) × Both m n
both_entries codec gap f g x y m n a b h =
    let shape : (k : Frame) (z : Bool) (r : List Mark) → entry gap k z ++ r ≡ fixed (entry_bits k z) ++ (free gap ++ r) = λ k z r. append_assoc (fixed (entry_bits k z)) (free gap) r in
    let h1 : Both (fixed (entry_bits f x) ++ (free gap ++ m)) (fixed (entry_bits g y) ++ (free gap ++ n)) = subst (λ r. Both r (fixed (entry_bits g y) ++ (free gap ++ n))) (shape f x m) (subst (λ r. Both (entry gap f x ++ m) r) (shape g y n) h) in
    let r = both_fixed (entry_bits f x) (entry_bits g y) (free gap ++ m) (free gap ++ n) refl h1 in
    let s = both_free gap m n r.1 in
    let e = r.0 in
    let types : nat 4 f.ft ≡ nat 4 g.ft = ap (λ (w : List Bool). take 4 (drop 1 w)) e in
    let qs : f.q ≡ g.q = cc in
    let xs : x ≡ y = cc in
    (xs, one_number 4 f.ft g.ft (let t = a.type in omega arith) (let t = b.type in omega arith) types, qs, s)

-- two tables that the same bits have are equal: the first F = 0 ends both
same_tables : (codec : Codec) (gap : ℕ) (f g : Frame) (fs gs : List Frame) (m n : List Mark) → AreFrames codec (f ∷ fs) → AreFrames codec (g ∷ gs) → Both (table gap (f ∷ fs) ++ m) (table gap (g ∷ gs) ++ n) → SameHeads (f ∷ fs) (g ∷ gs) × Both m n
same_tables codec gap f g [] [] m n a b h =
    let r = both_entries codec gap f g false false m n a.0 b.0 h in ((r.1, r.2, tt), r.3)
same_tables codec gap f g [] (k ∷ gs) m n a b h =
    let h1 : Both (entry gap f false ++ m) (entry gap g true ++ (table gap (k ∷ gs) ++ n)) = subst (λ r. Both (entry gap f false ++ m) r) (append_assoc (entry gap g true) (table gap (k ∷ gs)) n) h in
    let r = both_entries codec gap f g false true m (table gap (k ∷ gs) ++ n) a.0 b.0 h1 in absurd (let e = r.0 in cc)
same_tables codec gap f g (k ∷ fs) [] m n a b h =
    let h1 : Both (entry gap f true ++ (table gap (k ∷ fs) ++ m)) (entry gap g false ++ n) = subst (λ r. Both r (entry gap g false ++ n)) (append_assoc (entry gap f true) (table gap (k ∷ fs)) m) h in
    let r = both_entries codec gap f g true false (table gap (k ∷ fs) ++ m) n a.0 b.0 h1 in absurd (let e = r.0 in cc)
same_tables codec gap f g (k ∷ fs) (l ∷ gs) m n a b h =
    let h1 : Both (entry gap f true ++ (table gap (k ∷ fs) ++ m)) (entry gap g true ++ (table gap (l ∷ gs) ++ n)) = subst (λ r. Both r (entry gap g true ++ (table gap (l ∷ gs) ++ n))) (append_assoc (entry gap f true) (table gap (k ∷ fs)) m) (subst (λ r. Both (table gap (f ∷ k ∷ fs) ++ m) r) (append_assoc (entry gap g true) (table gap (l ∷ gs)) n) h) in
    let r = both_entries codec gap f g true true (table gap (k ∷ fs) ++ m) (table gap (l ∷ gs) ++ n) a.0 b.0 h1 in
    let t = same_tables codec gap k l fs gs m n a.1 b.1 r.3 in
    ((r.1, r.2, t.0), t.1)

-- a frame by its parts
abbrev pub frame : ℕ → Bool → List Bool → Frame
frame ft q bits = record { ft = ft; q = q; bits = bits }

-- values with equal parts are equal
pub value_parts : (v w : Value) → v.cmr ≡ w.cmr → v.stride ≡ w.stride → v.index ≡ w.index → v.frames ≡ w.frames → v ≡ w
value_parts v w a b c d = λ i. record { cmr = a i; stride = b i; index = c i; frames = d i }

-- at least one block of at least one channel has a frame
some_frames : (a b c : ℕ) → a ≡ b * c → 1 ≤ b → 1 ≤ c → (j : ℕ) × (a ≡ suc j)
some_frames zero zero c e h k = absurd (omega arith)
some_frames zero (suc b) zero e h k = absurd (omega arith)
some_frames zero (suc b) (suc c) e h k = absurd (grind arith)
some_frames (suc a) b c e h k = (a, refl)

-- two whole tables that the same bits have
same_rest : (codec : Codec) (gap : ℕ) (fs gs : List Frame) (m n : List Mark) (j k : ℕ) → length fs ≡ suc j → length gs ≡ suc k → AreFrames codec fs → AreFrames codec gs → Both (table gap fs ++ m) (table gap gs ++ n) → SameHeads fs gs × Both m n
same_rest codec gap [] gs m n j k d e a b h = absurd (omega arith)
same_rest codec gap (f ∷ fs) [] m n j k d e a b h = absurd (omega arith)
same_rest codec gap (f ∷ fs) (g ∷ gs) m n j k d e a b h = same_tables codec gap f g fs gs m n a b h

-- the same for whole blocks of frames
pub both_tables : (codec : Codec) (gap c x y : ℕ) (fs gs : List Frame) (m n : List Mark) → 1 ≤ c → length fs ≡ x * c → 1 ≤ x → length gs ≡ y * c → 1 ≤ y → AreFrames codec fs → AreFrames codec gs → Both (table gap fs ++ m) (table gap gs ++ n) → SameHeads fs gs × Both m n
both_tables codec gap c x y fs gs m n some d dx e ey a b h =
    let j = some_frames (length fs) x c d dx some in
    let k = some_frames (length gs) y c e ey some in
    same_rest codec gap fs gs m n j.0 k.0 j.1 k.1 a b h
