-- Cells that stand block behind block, and the blocks that are picked of them.
use Rattle.std.proofs.Common.{◌≡◌, ℕ, zero, suc, ◌+◌, ◌-◌, ◌*◌, ◌<◌, ◌≤◌, List, [], ◌∷◌, ◌++◌, length, take, drop, flat_map, get_or, sym, refl, ap, ◌∙◌, arith, append-nil, subst}
use Rattle.std.specs.Prelude.{IsTrue}
use Rattle.std.specs.List.{AllByRecursion, range_with_len}
use Rattle.std.proofs.lemmas.List.{append_assoc, drop-append-le, drop-drop, drop-take, length-append, length-drop, length-map, length-take-le, map-append, take-append-drop, take-append-le, take-take, take_all}
use Rattle.amr_bits.proofs.Lists.{all_append, split_all}
use Rattle.amr_frame.specs.Blocks.{IsPresentBlock, frames_of}
use Rattle.amr_frame.specs.Cells.{frame_of}
use Rattle.amr_frame.specs.Frames.{IsFrame}
use Rattle.amr_frame.specs.declared.cell.Cell.{Cell}
use Rattle.amr_frame.specs.declared.codec.Codec.{Codec}
use Rattle.amr_group.specs.Buffer.{ArePresentBlocks, picked, rows}

pub one_more : (n c : ℕ) → (n + 1) * c ≡ n * c + c
one_more n c = grind arith

one_less : (n c : ℕ) → suc n * c ≡ c + n * c
one_less n c = grind arith

-- ---- ranges and parts of lists

range_end : {X : Type 0} (f : ℕ → List X) (a n : ℕ)
    → flat_map f (range_with_len a (n + 1)) ≡ flat_map f (range_with_len a n) ++ f (a + n)
range_end f a zero =
    ap (λ k. flat_map f (range_with_len a k)) (let e : 0 + 1 ≡ suc 0 = omega arith in e)
    ∙ append-nil (f a) ∙ ap f (let e : a ≡ a + 0 = omega arith in e)
range_end f a (suc n) =
    ap (λ k. flat_map f (range_with_len a k)) (let e : suc n + 1 ≡ suc (n + 1) = omega arith in e)
    ∙ ap (λ l. f a ++ l) (range_end f (a + 1) n)
    ∙ sym (append_assoc (f a) (flat_map f (range_with_len (a + 1) n)) (f (a + 1 + n)))
    ∙ ap (λ k. (f a ++ flat_map f (range_with_len (a + 1) n)) ++ f k)
    (let e : a + 1 + n ≡ a + suc n = omega arith in e)

pub take_more_of : {X : Type 0} (n m : ℕ) (xs : List X) → take (n + m) xs ≡ take n xs ++ take m (drop n xs)
take_more_of n m xs =
    sym (take-append-drop n (take (n + m) xs))
    ∙ (λ i. take-take n (n + m) xs (let e : n ≤ n + m = omega arith in e) i ++ drop-take n m xs i)

-- ---- rows

pub length_rows : (c n : ℕ) (xs : List Cell) → length (rows c n xs) ≡ n
length_rows c zero xs = refl
length_rows c (suc n) xs = ap suc (length_rows c n (drop c xs))

pub rows_more : (c n : ℕ) (xs ys : List Cell) → length xs ≡ n * c → length ys ≡ c
    → rows c (n + 1) (xs ++ ys) ≡ rows c n xs ++ ys ∷ []
rows_more c zero [] ys len size =
    ap (λ k. rows c k ys) (let e : 0 + 1 ≡ suc 0 = omega arith in e)
    ∙ ap (λ l. l ∷ []) (take_all c ys (omega (arith, size)))
rows_more c zero (x ∷ xs) ys len size = absurd (omega (arith, len))
rows_more c (suc n) xs ys len size =
    let m = one_less n c in
    let le : c ≤ length xs = omega (arith, len, m) in
    let rest : length (drop c xs) ≡ n * c = length-drop c xs ∙ omega (arith, len, m) in
    ap (λ k. rows c k (xs ++ ys)) (let e : suc n + 1 ≡ suc (n + 1) = omega arith in e)
    ∙ (λ i. take-append-le c xs ys le i ∷ rows c (n + 1) (drop-append-le c xs ys le i))
    ∙ ap (λ l. take c xs ∷ l) (rows_more c n (drop c xs) ys rest size)

pub row_at : (c n : ℕ) (xs : List Cell) (i : ℕ) → i < n → get_or (rows c n xs) i [] ≡ take c (drop (i * c) xs)
row_at c zero xs i l = absurd (omega (arith, l))
row_at c (suc n) xs zero l = ap (λ k. take c (drop k xs)) (let e : 0 ≡ 0 * c = omega arith in e)
row_at c (suc n) xs (suc i) l =
    row_at c n (drop c xs) i (omega (arith, l))
    ∙ ap (take c) (drop-drop (i * c) c xs ∙ ap (λ k. drop k xs) (sym (one_less i c)))

pub rows_drop : (c n k : ℕ) (xs : List Cell) → k ≤ n → rows c (n - k) (drop (k * c) xs) ≡ drop k (rows c n xs)
rows_drop c n zero xs l =
    let e : 0 * c ≡ 0 = omega arith in
    let z : n - 0 ≡ n = omega arith in
    λ i. rows c (z i) (drop (e i) xs)
rows_drop c zero (suc k) xs l = absurd (omega (arith, l))
rows_drop c (suc n) (suc k) xs l =
    let z : suc n - suc k ≡ n - k = omega arith in
    ap (λ m. rows c m (drop (suc k * c) xs)) z
    ∙ ap (rows c (n - k)) (ap (λ m. drop m xs) (one_less k c) ∙ sym (drop-drop (k * c) c xs))
    ∙ rows_drop c n k (drop c xs) (omega (arith, l))

-- ---- picked blocks

pub picked_more : (blocks : List (List Cell)) (f s n : ℕ)
    → picked blocks f s (n + 1) ≡ picked blocks f s n ++ get_or blocks (f + n * s) []
picked_more blocks f s n =
    range_end (λ k. get_or blocks (f + k * s) []) 0 n
    ∙ ap (λ k. picked blocks f s n ++ get_or blocks (f + k * s) []) (let e : 0 + n ≡ n = omega arith in e)

pub picked_run : (c n : ℕ) (xs : List Cell) (at count : ℕ) → at + count ≤ n
    → picked (rows c n xs) at 1 count ≡ take (count * c) (drop (at * c) xs)
picked_run c n xs at zero le = ap (λ k. take k (drop (at * c) xs)) (let e : 0 ≡ 0 * c = omega arith in e)
picked_run c n xs at (suc k) le =
    let place : at + k * 1 ≡ at + k = omega arith in
    let further : at * c + k * c ≡ (at + k) * c = grind arith in
    ap (picked (rows c n xs) at 1) (let e : suc k ≡ k + 1 = omega arith in e)
    ∙ picked_more (rows c n xs) at 1 k
    ∙ (λ i. picked_run c n xs at k (let e : at + k ≤ n = omega (arith, le) in e) i
    ++ get_or (rows c n xs) (place i) [])
    ∙ ap (λ l. take (k * c) (drop (at * c) xs) ++ l) (row_at c n xs (at + k) (omega (arith, le)))
    ∙ ap (λ l. take (k * c) (drop (at * c) xs) ++ take c l)
    (ap (λ z. drop z xs) (sym further) ∙ sym (drop-drop (k * c) (at * c) xs))
    ∙ sym (take_more_of (k * c) c (drop (at * c) xs))
    ∙ ap (λ z. take z (drop (at * c) xs)) (let e : k * c + c ≡ suc k * c = grind arith in e)

-- ---- present blocks

pub none_present : (codec : Codec) (c : ℕ) (cells : List Cell) → cells ≡ [] → ArePresentBlocks codec c 0 cells
none_present codec c cells is = subst (ArePresentBlocks codec c 0) (sym is)
    (record { present = tt; whole = omega arith; frames = tt })

-- more blocks behind some
pub more_present : (codec : Codec) (c n m : ℕ) (xs ys : List Cell) → ArePresentBlocks codec c n xs
    → ArePresentBlocks codec c m ys → ArePresentBlocks codec c (n + m) (xs ++ ys)
more_present codec c n m xs ys p q =
    let a = p.whole in let b = q.whole in
    let sum : (n + m) * c ≡ n * c + m * c = grind arith in
    record {
      present = all_append (λ (cell : Cell). IsTrue cell.present) xs ys p.present q.present;
      whole = length-append xs ys ∙ omega (arith, a, b, sum);
      frames = subst (AllByRecursion (IsFrame codec)) (sym (map-append frame_of xs ys))
          (all_append (IsFrame codec) (frames_of xs) (frames_of ys) p.frames q.frames);
    }

-- a part of them
parts : (codec : Codec) (c n m : ℕ) (xs ys : List Cell) → length xs ≡ n * c → length ys ≡ m * c
    → ArePresentBlocks codec c (n + m) (xs ++ ys) → ArePresentBlocks codec c n xs × ArePresentBlocks codec c m ys
parts codec c n m xs ys len size p =
    let present = split_all (λ (cell : Cell). IsTrue cell.present) xs ys p.present in
    let frames = split_all (IsFrame codec) (frames_of xs) (frames_of ys)
    (subst (AllByRecursion (IsFrame codec)) (map-append frame_of xs ys) p.frames) in (
      record { present = present.0; whole = len; frames = frames.0 },
      record { present = present.1; whole = size; frames = frames.1 },
    )

cut_present : (codec : Codec) (c n m : ℕ) (xs : List Cell) → ArePresentBlocks codec c (n + m) xs
    → ArePresentBlocks codec c n (take (n * c) xs) × ArePresentBlocks codec c m (drop (n * c) xs)
cut_present codec c n m xs p =
    let len = p.whole in
    let sum : (n + m) * c ≡ n * c + m * c = grind arith in
    parts codec c n m (take (n * c) xs) (drop (n * c) xs)
    (length-take-le (n * c) xs (omega (arith, len, sum)))
    (length-drop (n * c) xs ∙ omega (arith, len, sum))
    (subst (ArePresentBlocks codec c (n + m)) (sym (take-append-drop (n * c) xs)) p)

pub run_present : (codec : Codec) (c n : ℕ) (xs : List Cell) (at count : ℕ) → ArePresentBlocks codec c n xs
    → at + count ≤ n → ArePresentBlocks codec c count (take (count * c) (drop (at * c) xs))
run_present codec c n xs at count p le =
    let split : n ≡ at + (n - at) = omega (arith, le) in
    let more : n - at ≡ count + (n - (at + count)) = omega (arith, le) in
    let behind = (cut_present codec c at (n - at) xs (subst (λ k. ArePresentBlocks codec c k xs) split p)).1 in
    (cut_present codec c count (n - (at + count)) (drop (at * c) xs)
    (subst (λ k. ArePresentBlocks codec c k (drop (at * c) xs)) more behind)).0

pub rest_present : (codec : Codec) (c n : ℕ) (xs : List Cell) (k : ℕ) → ArePresentBlocks codec c n xs → k ≤ n
    → ArePresentBlocks codec c (n - k) (drop (k * c) xs)
rest_present codec c n xs k p le =
    let split : n ≡ k + (n - k) = omega (arith, le) in
    (cut_present codec c k (n - k) xs (subst (λ m. ArePresentBlocks codec c m xs) split p)).1

pub row_present : (codec : Codec) (c n : ℕ) (xs : List Cell) (i : ℕ) → ArePresentBlocks codec c n xs → i < n
    → ArePresentBlocks codec c 1 (get_or (rows c n xs) i [])
row_present codec c n xs i p l =
    subst (ArePresentBlocks codec c 1)
    (ap (λ k. take k (drop (i * c) xs)) (let e : 1 * c ≡ c = omega arith in e) ∙ sym (row_at c n xs i l))
    (run_present codec c n xs i 1 p (omega (arith, l)))

pub picked_present : (codec : Codec) (c n : ℕ) (xs : List Cell) (f s count : ℕ) → ArePresentBlocks codec c n xs
    → ((k : ℕ) → k < count → f + k * s < n) → ArePresentBlocks codec c count (picked (rows c n xs) f s count)
picked_present codec c n xs f s zero p l = none_present codec c [] refl
picked_present codec c n xs f s (suc k) p l =
    let e : suc k ≡ k + 1 = omega arith in
    let front = picked_present codec c n xs f s k p (λ j lt. l j (omega (arith, lt))) in
    subst (λ z. ArePresentBlocks codec c z (picked (rows c n xs) f s z)) (sym e)
    (subst (ArePresentBlocks codec c (k + 1)) (sym (picked_more (rows c n xs) f s k))
    (more_present codec c k 1 (picked (rows c n xs) f s k) (get_or (rows c n xs) (f + k * s) []) front
    (row_present codec c n xs (f + k * s) p (l k (omega arith)))))

-- a block is one of them, and one of them is a block
pub of_block : (codec : Codec) (c : ℕ) (cells : List Cell) → IsPresentBlock codec c cells
    → ArePresentBlocks codec c 1 cells
of_block codec c cells p =
    let whole = p.block.whole in
    let size = length-map cells frame_of in
    record { present = p.present; whole = omega (arith, whole, size); frames = p.block.frames }

pub is_block : (codec : Codec) (c : ℕ) (cells : List Cell) → ArePresentBlocks codec c 1 cells
    → IsPresentBlock codec c cells
is_block codec c cells p =
    let whole = p.whole in
    let size = length-map cells frame_of in
    record { present = p.present; block = record { whole = omega (arith, whole, size); frames = p.frames } }
