-- Frames and the whole blocks of them.
use Rattle.std.proofs.Common.{◌≡◌, ℕ, zero, suc, ◌+◌, ◌-◌, ◌*◌, ◌/◌, ◌%◌, ◌<◌, ◌≤◌, List, [], ◌∷◌, ◌++◌, length, map, take, drop, sym, refl, ap, ◌∙◌, arith}
use Rattle.std.specs.List.{flat_map, range_with_len, AllByRecursion}
use Rattle.std.proofs.Math.Seq.{take-append_seam, drop-append-add}
use Rattle.std.proofs.lemmas.List.{length-append, length-take, length-drop, take-append-drop}
use Rattle.std.proofs.lemmas.Nat.{div-mul-add, div-add-mod'}
use Rattle.amr_bits.specs.Bits.{part}
use Rattle.amr_frame.specs.declared.codec.Codec.{Codec}
use Rattle.amr_frame.specs.Frames.{Frame, IsBlock, IsFrame}
use Rattle.payload_laws.proofs.Ranges.{map_moved}
use Rattle.spec_store.specs.StorageReading.{blocks_of}

-- blocks as a list of frames
abbrev pub joined : List (List Frame) → List Frame
joined blocks = flat_map (λ b. b) blocks

-- a block in front of other frames is the first of their blocks
pub block_first : (c : ℕ) (x rest : List Frame) → 1 ≤ c → length x ≡ c → blocks_of c (x ++ rest) ≡ x ∷ blocks_of c rest
block_first c x rest one e =
    let q = length rest / c in
    let whole = div-add-mod' (length rest) c in
    let below = Rattle.std.proofs.lemmas.Nat.mod_below (length rest) c one in
    let n : length (x ++ rest) / c ≡ suc q =
    ap (λ k. k / c) (length-append x rest ∙ (let z : length x + length rest ≡ suc q * c + length rest % c = omega (arith, whole, e) in z)) ∙ div-mul-add (suc q) c (length rest % c) below in
    let first : part (0 * c) c (x ++ rest) ≡ x =
    ap (λ k. take c (drop k (x ++ rest))) (let z : 0 * c ≡ 0 = omega arith in z) ∙ ap (λ k. take k (x ++ rest)) (sym e) ∙ take-append_seam x rest in
    let later = λ (k : ℕ). ap (λ j. take c (drop j (x ++ rest))) (let z : (1 + k) * c ≡ length x + (0 + k) * c = omega (arith, e) in z) ∙ ap (take c) (drop-append-add x rest ((0 + k) * c)) in
    ap (λ m. map (λ k. part (k * c) c (x ++ rest)) (range_with_len 0 m)) n
    ∙ (λ i. first i ∷ map_moved (λ k. part (k * c) c (x ++ rest)) (λ k. part (k * c) c rest) 1 0 q later i)

-- the blocks of blocks that were joined
pub blocks_again : (c : ℕ) (blocks : List (List Frame)) → 1 ≤ c → AllByRecursion (λ (b : List Frame). length b ≡ c) blocks → blocks_of c (joined blocks) ≡ blocks
blocks_again c [] one h = ap (λ n. map (λ k. part (k * c) c []) (range_with_len 0 n)) (ap (λ m. m / c) (let z : 0 ≡ 0 * c + 0 = omega arith in z) ∙ div-mul-add 0 c 0 one)
blocks_again c (x ∷ blocks) one h = block_first c x (joined blocks) one h.0 ∙ ap (λ bs. x ∷ bs) (blocks_again c blocks one h.1)

-- what the blocks of n * c frames of a codec are
pub record AreBlocks (codec : Codec) (c : ℕ) (frames : List Frame) : Type 0 where
  pub same : joined (blocks_of c frames) ≡ frames
  pub blocks : AllByRecursion (IsBlock codec c) (blocks_of c frames)

all_take : (P : Frame → Type 0) (k : ℕ) (xs : List Frame) → AllByRecursion P xs → AllByRecursion P (take k xs) × AllByRecursion P (drop k xs)
all_take P zero xs h = (tt, h)
all_take P (suc k) [] h = (tt, tt)
all_take P (suc k) (x ∷ xs) h = let r = all_take P k xs h.1 in ((h.0, r.0), r.1)

pub are_blocks : (codec : Codec) (c n : ℕ) (frames : List Frame) → 1 ≤ c → length frames ≡ n * c → AllByRecursion (IsFrame codec) frames → AreBlocks codec c frames
are_blocks codec c zero [] one e h =
    let none : blocks_of c [] ≡ [] = blocks_again c [] one tt in
    record { same = ap joined none; blocks = Rattle.std.proofs.Common.subst (λ bs. AllByRecursion (IsBlock codec c) bs) (sym none) tt }
are_blocks codec c zero (x ∷ frames) one e h = absurd (omega arith)
are_blocks codec c (suc n) frames one e h =
    let x = take c frames in let rest = drop c frames in
    let lx : length x ≡ c = length-take c frames ∙ omega (arith, e) in
    let lr : length rest ≡ n * c = length-drop c frames ∙ omega (arith, e) in
    let t = all_take (IsFrame codec) c frames h in
    let r = are_blocks codec c n rest one lr t.1 in
    let first : blocks_of c frames ≡ x ∷ blocks_of c rest = ap (blocks_of c) (sym (take-append-drop c frames)) ∙ block_first c x rest one lx in
    record {
      same = ap joined first ∙ ap (λ fs. x ++ fs) r.same ∙ take-append-drop c frames;
      blocks = Rattle.std.proofs.Common.subst (λ bs. AllByRecursion (IsBlock codec c) bs) (sym first) (record { whole = lx; frames = t.0 }, r.blocks);
    }
