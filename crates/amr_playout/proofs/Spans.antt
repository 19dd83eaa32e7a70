-- What a ring of cells does to the list of what they hold.
use Rattle.std.proofs.Common.{Option, None, ℕ, suc, ◌+◌, ◌-◌, ◌*◌, ◌<◌, ◌≤◌, ◌≡◌, List, [], ◌∷◌, ◌++◌, length, map, take, drop, replicate, get_or, refl, sym, ap, ◌∙◌, arith, length-append, length-drop, append_assoc, inl, inr}
use Rattle.std.specs.List.{range_with_len}
use Rattle.std.proofs.lemmas.List.{get_or-drop, get_or_append_left, get_or-append_right, get_or-replicate, ext_get_or, get_or_past, drop_more, length-replicate, replicate_more}
use Rattle.std.proofs.lemmas.List.FromFn.{length-map-range_with_len, get_or-map-range_with_len, take-map-range_with_len, map-range_with_len_more}
use Rattle.std.proofs.lemmas.Bool.{cases_lt}
use Rattle.circular_buffer.specs.Buffer.{keep_last}
use Rattle.amr_frame.specs.Frames.{Frame}
use Rattle.amr_playout.proofs.Ranges.{joined_maps}
use Rattle.amr_playout.specs.Window.{item, row, rows, slid}
use Rattle.spec_session.specs.Quality.{stored}

-- a list with the items of a function over a range is its map
pub is_map : {X : Type 0} (d : X) (f : ℕ → X) (a n : ℕ) (xs : List X) → length xs ≡ n
    → ((k : ℕ) → k < n → get_or xs k d ≡ f (a + k)) → xs ≡ map f (range_with_len a n)
is_map d f a n xs len each =
    ext_get_or d xs (map f (range_with_len a n)) (len ∙ sym (length-map-range_with_len f a n))
    (λ k h. each k (omega arith) ∙ sym (get_or-map-range_with_len f a n k (a + k) d (omega arith) refl))

-- one cell out at the front, and an absent one in at the end
slid_one : {X : Type 0} (xs : List X) (d : X) (c : ℕ) → c < length xs
    → drop 1 (drop c xs ++ replicate c d ++ d ∷ []) ≡ drop (c + 1) xs ++ replicate (c + 1) d
slid_one xs d c h =
    rw (drop_more xs c d h)
    (append_assoc (drop (c + 1) xs) (replicate c d) (d ∷ []) ∙ ap (λ r. drop (c + 1) xs ++ r) (replicate_more c d))

-- a full ring of which c cells were pushed out, and one more
pub pushed : {X : Type 0} (xs ys : List X) (d : X) (cap c : ℕ) → length xs ≡ cap → c < cap
    → ys ≡ drop c xs ++ replicate c d
    → keep_last cap (ys ++ d ∷ []) ≡ drop (c + 1) xs ++ replicate (c + 1) d
pushed {X} xs ys d cap c len lt is =
    let ly : length ys ≡ cap =
    ap length is ∙ length-append (drop c xs) (replicate c d)
    ∙ omega (arith, length-drop c xs, length-replicate c d) in
    let one : length (ys ++ d ∷ []) - cap ≡ 1 = omega (arith, length-append ys (d ∷ [])) in
    ap (λ k. drop k (ys ++ d ∷ [])) one ∙ ap (λ zs. drop 1 (zs ++ d ∷ [])) is ∙ slid_one xs d c (omega arith)

pub length-pushed : {X : Type 0} (xs : List X) (d : X) (c : ℕ) → c ≤ length xs
    → length (drop c xs ++ replicate c d) ≡ length xs
length-pushed xs d c h =
    omega (arith, length-append (drop c xs) (replicate c d), length-drop c xs, length-replicate c d)

-- ---- sliding by whole blocks

-- a slide of k absent items
pub slide : (xs : List (Option Frame)) (a k : ℕ) → k ≤ length xs
    → drop k (slid xs a) ++ replicate k None ≡ slid xs (a + k)
slide xs a k h =
    let n : ℕ = length xs in
    let s : List (Option Frame) = slid xs a in
    let none : List (Option Frame) = replicate k None in
    let ls : length s ≡ n = length-map-range_with_len (item xs) a n in
    let ld : length (drop k s) ≡ n - k = length-drop k s ∙ ap (λ m. m - k) ls in
    let lr : length none ≡ k = length-replicate k None in
    is_map None (item xs) (a + k) n (drop k s ++ none) (length-append (drop k s) none ∙ omega arith)
    (λ j hj. elim (cases_lt j (n - k)) [
      | inl lt ↦
          get_or_append_left (drop k s) none None j (omega arith)
          ∙ get_or-drop k s j None ∙ get_or-map-range_with_len (item xs) a n (k + j) (a + (k + j)) None (omega arith)
          refl ∙ ap (item xs) (omega arith)
      | inr ge ↦
          get_or-append_right (drop k s) none (n - k) j None ld ge
          ∙ get_or-replicate k (j - (n - k)) None None (omega arith)
          ∙ sym (get_or_past xs (a + k + j) None (omega arith))
    ])

pub times_more : (i c : ℕ) → i * c + c ≡ (i + 1) * c
times_more i c = grind arith

pub slid_on : (xs ys : List (Option Frame)) (i c : ℕ) → c ≤ length xs → ys ≡ slid xs (i * c)
    → drop c ys ++ replicate c None ≡ slid xs ((i + 1) * c)
slid_on xs ys i c le is =
    ap (λ zs. drop c zs ++ replicate c None) is ∙ slide xs (i * c) c le ∙ ap (slid xs) (times_more i c)

-- the block pushed out
pub row_out : (xs ys : List (Option Frame)) (i c : ℕ) → c ≤ length xs → ys ≡ slid xs (i * c)
    → map stored (take c ys) ≡ row c xs i
row_out xs ys i c le is =
    ap (λ zs. map stored (take c zs)) is ∙ ap (map stored) (take-map-range_with_len (item xs) (i * c) (length xs) c le)

pub rows_more : (c : ℕ) (xs : List (Option Frame)) (skip i : ℕ) → skip ≤ i
    → rows c xs skip (i + 1 - skip) ≡ rows c xs skip (i - skip) ++ row c xs i ∷ []
rows_more c xs skip i le =
    let one : i + 1 - skip ≡ (i - skip) + 1 = omega arith in
    ap (rows c xs skip) one ∙ map-range_with_len_more (row c xs) skip (i - skip) i (omega arith)

pub rows_none : (c : ℕ) (xs : List (Option Frame)) (skip i : ℕ) → i < skip
    → rows c xs skip (i + 1 - skip) ≡ rows c xs skip (i - skip)
rows_none c xs skip i lt = let same : i + 1 - skip ≡ i - skip = omega arith in ap (rows c xs skip) same

-- the rows after block i are the rest of all
pub rows_rest : (c : ℕ) (xs : List (Option Frame)) (skip i n : ℕ) → skip ≤ i → i < n
    → (rest : List (List Frame)) × (rows c xs skip (n - skip) ≡ rows c xs skip (i - skip) ++ row c xs i ∷ rest)
rows_rest c xs skip i n le lt = (
  rows c xs (i + 1) (n - (i + 1)),
  (let all : n - skip ≡ (i - skip) + (suc (n - (i + 1))) = omega arith in
      let place : skip + (i - skip) ≡ i = omega arith in
      ap (rows c xs skip) all ∙ joined skip (i - skip) (suc (n - (i + 1)))
      ∙ ap (λ k. rows c xs skip (i - skip) ++ rows c xs k (suc (n - (i + 1)))) place),
)
  where
    joined : (a m k : ℕ) → rows c xs a (m + k) ≡ rows c xs a m ++ rows c xs (a + m) k
    joined a m k = joined_maps (row c xs) a m k

pub slid_0 : (xs : List (Option Frame)) (c : ℕ) → xs ≡ slid xs (0 * c)
slid_0 xs c = is_map None (item xs) (0 * c) (length xs) xs refl (λ k h. ap (item xs) (grind arith))
