-- The cells of a window, and what one copy more changes in them.
use Rattle.std.proofs.Common.{ℕ, ◌+◌, ◌*◌, ◌/◌, ◌%◌, ◌<◌, ◌≤◌, ◌≡◌, true, false, cond, ◌&&◌, nat_eq, List, [], ◌∷◌, ◌++◌, length, map, get_or, set, refl, sym, ap, ◌∙◌, arith, inl, inr, Option, Some, None, ℤ, pos, ◌+ℤ◌, length-set, get_or-set_same, get_or-set_other}
use Rattle.std.specs.Prelude.{◌≤ℤ◌, ◌<ℤ◌, filter, fold}
use Rattle.std.specs.List.{range_with_len, AllByRecursion}
use Rattle.std.proofs.lemmas.Bool.{cases_lt, cases_eq}
use Rattle.std.proofs.lemmas.Bool.Decides.{nat_tests}
use Rattle.std.proofs.lemmas.Int.{ints, by_lt_z}
use Rattle.std.proofs.lemmas.List.{get_or_past}
use Rattle.std.proofs.lemmas.List.Elements.{filter-append}
use Rattle.std.proofs.lemmas.List.FromFn.{length-map-range_with_len, get_or-map-range_with_len}
use Rattle.std.proofs.lemmas.List.Sums.{fold-append}
use Rattle.std.proofs.lemmas.Nat.{le-div, mod_below, mul-add-lt, div-mul-add, mod-mul-add, div-add-mod'}
use Rattle.std.proofs.Math.Nat.{mul_comm}
use Rattle.amr_frame.specs.declared.codec.Codec.{Codec}
use Rattle.amr_frame.specs.Frames.{Frame}
use Rattle.amr_playout.specs.Window.{base_of, cell_at, item, row, window_of}
use Rattle.amr_playout.proofs.Ranges.{map_map, shifted_maps}
use Rattle.amr_playout.proofs.Spans.{is_map}
use Rattle.spec_session.specs.Copies.{Copy}
use Rattle.spec_session.specs.Quality.{best, better, stored}
use Rattle.spec_session.specs.Release.{best_at, block_at, is_at, same_place}
use Rattle.spec_session.specs.Session.{Rules}

same_here : (p : ℤ) → same_place p p ≡ true
same_here p = grind (arith, ints)

below : (a b : ℤ) → a <ℤ b → same_place a b ≡ false
below a b h = grind (arith, ints)

above : (a b : ℤ) → b <ℤ a → same_place a b ≡ false
above a b h = grind (arith, ints)

-- whether two places and channels are the same
pub both_here : (p : ℤ) (c : ℕ) → (same_place p p && nat_eq c c) ≡ true
both_here p c = let e : same_place p p ≡ true = same_here p in rw e (grind (arith, nat_tests))

pub apart : (p q : ℤ) (c d : ℕ) → (p ≡ q → c ≡ d → ⊥) → (same_place p q && nat_eq c d) ≡ false
apart p q c d other =
    by_lt_z p q
    (λ l. let e : same_place p q ≡ false = below p q l in rw e refl)
    (λ l.
    by_lt_z q p
    (λ m. let e : same_place p q ≡ false = above p q m in rw e refl)
    (λ m.
    let same : p ≡ q = omega (arith, ints) in
    elim (cases_eq c d) [
      | inl e ↦ absurd (other same e)
      | inr ne ↦ (let f : nat_eq c d ≡ false = grind (arith, nat_tests) in let t : same_place p q ≡ true = ap
          (same_place p) (sym same) ∙ same_here p in rw (t, f) refl)
    ]))

abbrev pub copy : ℤ → ℕ → Frame → Copy
copy q c x = record { place = q; channel = c; frame = x }

map-both : {X Y : Type 0} (f : X → Y) (xs ys : List X) → map f (xs ++ ys) ≡ map f xs ++ map f ys
map-both f [] ys = refl
map-both f (x ∷ xs) ys = ap (λ zs. f x ∷ zs) (map-both f xs ys)

abbrev frame_in : Copy → Frame
frame_in c = c.frame

-- the best of copies, and of one more
grown : (codec : Codec) (cs : List Copy) (d : Copy) (p : ℤ) (c : ℕ) →
    best_at codec (cs ++ d ∷ []) p c ≡ fold (λ kept f. better codec kept (Some f)) (best_at codec cs p c)
    (map frame_in (filter (is_at p c) (d ∷ [])))
grown codec cs d p c =
    ap (λ xs. best codec (map frame_in xs)) (filter-append (is_at p c) cs (d ∷ []))
    ∙ ap (best codec) (map-both frame_in (filter (is_at p c) cs) (filter (is_at p c) (d ∷ [])))
    ∙ fold-append (λ kept f. better codec kept (Some f)) None (map frame_in (filter (is_at p c) cs))
    (map frame_in (filter (is_at p c) (d ∷ [])))

pub best_here : (codec : Codec) (cs : List Copy) (q : ℤ) (c : ℕ) (x : Frame)
    → best_at codec (cs ++ copy q c x ∷ []) q c ≡ better codec (best_at codec cs q c) (Some x)
best_here codec cs q c x =
    let e : is_at q c (copy q c x) ≡ true = both_here q c in
    grown codec cs (copy q c x) q c
    ∙ ap (λ b. fold (λ kept f. better codec kept (Some f)) (best_at codec cs q c)
    (map frame_in (cond b (copy q c x ∷ []) []))) e

pub best_else : (codec : Codec) (cs : List Copy) (q : ℤ) (c : ℕ) (x : Frame) (p : ℤ) (d : ℕ) → (q ≡ p → c ≡ d → ⊥)
    → best_at codec (cs ++ copy q c x ∷ []) p d ≡ best_at codec cs p d
best_else codec cs q c x p d other =
    let e : is_at p d (copy q c x) ≡ false = apart q p c d other in
    grown codec cs (copy q c x) p d
    ∙ ap (λ b. fold (λ kept f. better codec kept (Some f)) (best_at codec cs p d)
    (map frame_in (cond b (copy q c x ∷ []) []))) e

pub length-window : (rules : Rules) (cs : List Copy) (base : ℤ)
    → length (window_of rules cs base) ≡ rules.window * rules.channels
length-window rules cs base = length-map-range_with_len (cell_at rules cs base) 0 (rules.window * rules.channels)

pub in_window : (rules : Rules) (r c : ℕ) → c < rules.channels → r < rules.window
    → r * rules.channels + c < rules.window * rules.channels
in_window rules r c lt row =
    omega (arith, mul-add-lt r rules.channels c rules.window row lt, mul_comm rules.channels rules.window)

pub window_item : (rules : Rules) (cs : List Copy) (base : ℤ) (k : ℕ) → k < rules.window * rules.channels
    → item (window_of rules cs base) k ≡ cell_at rules cs base k
window_item rules cs base k h =
    get_or-map-range_with_len (cell_at rules cs base) 0 (rules.window * rules.channels) k k None h (omega arith)

-- the item of a place and a channel
pub item_at : (rules : Rules) (cs : List Copy) (base q : ℤ) (r c : ℕ) → c < rules.channels → r < rules.window
    → q ≡ base +ℤ pos r
    → item (window_of rules cs base) (r * rules.channels + c) ≡ best_at rules.codec cs q c
item_at rules cs base q r c lt row is =
    let n : ℕ = rules.channels in
    window_item rules cs base (r * n + c) (in_window rules r c lt row)
    ∙ ap (λ k. best_at rules.codec cs (base +ℤ pos k) ((r * n + c) % n)) (div-mul-add r n c lt)
    ∙ ap (best_at rules.codec cs (base +ℤ pos r)) (mod-mul-add r n c lt)
    ∙ ap (λ p. best_at rules.codec cs p c) (sym is)

-- one copy merged into the window
pub put_one : (rules : Rules) (cs : List Copy) (base q : ℤ) (r c : ℕ) (x : Frame) → c < rules.channels
    → r < rules.window → q ≡ base +ℤ pos r
    → (let s = window_of rules cs base in let i = r * rules.channels + c in
    set s i (better rules.codec (item s i) (Some x)) ≡ window_of rules (cs ++ copy q c x ∷ []) base)
put_one rules cs base q r c x lt row is =
    let n : ℕ = rules.channels in
    let m : ℕ = rules.window * n in
    let i : ℕ = r * n + c in
    let s : List (Option Frame) = window_of rules cs base in
    let w : Option Frame = better rules.codec (item s i) (Some x) in
    let more : List Copy = cs ++ copy q c x ∷ [] in
    let ls : length s ≡ m = length-window rules cs base in
    let inside : i < m = in_window rules r c lt row in
    is_map None (cell_at rules more base) 0 m (set s i w) (length-set s i w ∙ ls)
    (λ k hk. elim (cases_eq k i) [
      | inl e ↦
          ap (λ j. get_or (set s i w) j None) e ∙ get_or-set_same s i w None (omega arith)
          ∙ ap (λ o. better rules.codec o (Some x)) (item_at rules cs base q r c lt row is)
          ∙ sym (best_here rules.codec cs q c x)
          ∙ sym (ap (λ j. cell_at rules more base j) (omega arith)
          ∙ ap (λ j. best_at rules.codec more (base +ℤ pos j) (i % n)) (div-mul-add r n c lt)
          ∙ ap (best_at rules.codec more (base +ℤ pos r)) (mod-mul-add r n c lt)
          ∙ ap (λ p. best_at rules.codec more p c) (sym is))
      | inr ne ↦
          get_or-set_other s i k w None ne ∙ window_item rules cs base k hk
          ∙ sym (ap (cell_at rules more base) (omega arith)
          ∙ best_else rules.codec cs q c x (base +ℤ pos (k / n)) (k % n)
          (λ eq ec.
          let rows : k / n ≡ r = omega (arith, ints) in
          ne (sym (div-add-mod' k n) ∙ ap (λ j. j * n + k % n) rows ∙ ap (λ d. r * n + d) (sym ec))))
    ])

-- ---- past the horizon there is nothing

-- no copy stands past the horizon
abbrev pub Within : ℤ → List Copy → Type 0
Within h cs = AllByRecursion (λ (x : Copy). x.place ≤ℤ h) cs

none_past : (h p : ℤ) (c : ℕ) (cs : List Copy) → Within h cs → h <ℤ p → filter (is_at p c) cs ≡ []
none_past h p c [] all lt = refl
none_past h p c (x ∷ cs) all lt =
    let low : x.place ≤ℤ h = all.0 in
    let e : same_place x.place p ≡ false = below x.place p (omega (arith, ints)) in
    rw e (none_past h p c cs all.1 lt)

pub cell_past : (rules : Rules) (h base : ℤ) (cs : List Copy) (k : ℕ) → Within h cs
    → h <ℤ (base +ℤ pos (k / rules.channels)) → cell_at rules cs base k ≡ None
cell_past rules h base cs k all lt =
    ap (λ xs. best rules.codec (map frame_in xs))
    (none_past h (base +ℤ pos (k / rules.channels)) (k % rules.channels) cs all lt)

-- each item of the window, and past it none
pub each_item : (rules : Rules) (h : ℤ) (cs : List Copy) (k : ℕ) → 0 < rules.channels → Within h cs
    → item (window_of rules cs (base_of rules h)) k ≡ cell_at rules cs (base_of rules h) k
each_item rules h cs k some all =
    elim (cases_lt k (rules.window * rules.channels)) [
      | inl lt ↦ window_item rules cs (base_of rules h) k lt
      | inr ge ↦
          let past : rules.window ≤ k / rules.channels = le-div rules.window k rules.channels some ge in
          get_or_past (window_of rules cs (base_of rules h)) k None
          (omega (arith, length-window rules cs (base_of rules h)))
          ∙ sym (cell_past rules h (base_of rules h) cs k all (omega (arith, ints)))
    ]

-- a block of cells is the block of the place
pub row_block : (rules : Rules) (h : ℤ) (cs : List Copy) (i : ℕ) → 0 < rules.channels → Within h cs →
    row rules.channels (window_of rules cs (base_of rules h)) i ≡ block_at rules cs (base_of rules h +ℤ pos i)
row_block rules h cs i some all =
    let n : ℕ = rules.channels in
    let b : ℤ = base_of rules h in
    let s : List (Option Frame) = window_of rules cs b in
    map_map stored (item s) (range_with_len (i * n) n)
    ∙ shifted_maps (λ k. stored (item s k)) (λ c. stored (best_at rules.codec cs (b +ℤ pos i) c)) (i * n) 0 n
    (λ c lt.
    ap stored (each_item rules h cs (i * n + c) some all
    ∙ ap (λ k. best_at rules.codec cs (b +ℤ pos k) ((i * n + c) % n)) (div-mul-add i n c lt)
    ∙ ap (best_at rules.codec cs (b +ℤ pos i)) (mod-mul-add i n c lt ∙ omega arith)))

-- the window a number of places on
pub slid_window : (rules : Rules) (h : ℤ) (cs : List Copy) (count : ℕ) → 0 < rules.channels → Within h cs →
    map (item (window_of rules cs (base_of rules h)))
    (range_with_len (count * rules.channels) (rules.window * rules.channels)) ≡ window_of rules cs
    (base_of rules (h +ℤ pos count))
slid_window rules h cs count some all =
    let n : ℕ = rules.channels in
    let b : ℤ = base_of rules h in
    shifted_maps (item (window_of rules cs b)) (cell_at rules cs (base_of rules (h +ℤ pos count))) (count * n) 0
    (rules.window * n)
    (λ k lt.
    each_item rules h cs (count * n + k) some all
    ∙ ap (λ j. best_at rules.codec cs (b +ℤ pos j) ((count * n + k) % n)) (over count n k some)
    ∙ ap (best_at rules.codec cs (b +ℤ pos (count + k / n))) (under count n k some)
    ∙ ap (λ p. best_at rules.codec cs p (k % n)) (omega (arith, ints))
    ∙ ap (cell_at rules cs (base_of rules (h +ℤ pos count))) (omega arith))
  where
    over : (count n k : ℕ) → 0 < n → (count * n + k) / n ≡ count + k / n
    over count n k some =
        let split : count * n + k ≡ (count + k / n) * n + k % n = grind (arith, div-add-mod') in
        ap (λ j. j / n) split ∙ div-mul-add (count + k / n) n (k % n) (mod_below k n some)

    under : (count n k : ℕ) → 0 < n → (count * n + k) % n ≡ k % n
    under count n k some =
        let split : count * n + k ≡ (count + k / n) * n + k % n = grind (arith, div-add-mod') in
        ap (λ j. j % n) split ∙ mod-mul-add (count + k / n) n (k % n) (mod_below k n some)
