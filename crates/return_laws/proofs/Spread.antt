-- What is released of copies that tell the blocks of a list, each at the number of its block.
use Rattle.std.proofs.Common.{◌≡◌, ℕ, zero, suc, ◌-◌, ◌<◌, ◌≤◌, true, false, cond, List, [], ◌∷◌, length, map, sym, refl, ap, ◌∙◌, arith, Option, Some, None, ℤ, pos, ◌+ℤ◌, ◌-ℤ◌, inl, inr, ◌⊎◌}
use Rattle.std.specs.Prelude.{◌≤ℤ◌, ◌<ℤ◌, filter, slice_index_or}
use Rattle.std.specs.List.{range_with_len, AllByRecursion}
use Rattle.std.specs.Int.{int_max, int_min}
use Rattle.std.proofs.lemmas.Int.{ints, clamps}
use Rattle.std.proofs.lemmas.List.FromFn.{fill_by_all}
use Rattle.amr_frame.specs.declared.codec.Codec.{Codec}
use Rattle.amr_frame.specs.Frames.{Frame, no_data}
use Rattle.amr_merge.proofs.Ranks.{best_cons, better_same, none_better}
use Rattle.session_laws.proofs.Prefix.{greatest_grows}
use Rattle.spec_session.specs.Copies.{Copy}
use Rattle.spec_session.specs.Quality.{best, better, stored}
use Rattle.spec_session.specs.Release.{best_at, block_at, blocks_between, is_at, least, greatest, one_more, places_between, released_of}
use Rattle.spec_session.specs.Session.{Rules}

-- frame c of block n
abbrev pub frame_at : List (List Frame) → ℕ → ℕ → Frame
frame_at b n c = slice_index_or (slice_index_or b n []) c no_data

-- a copy of a frame of these blocks, at the number of its block
pub record Tells (channels : ℕ) (b : List (List Frame)) (x : Copy) : Type 0 where
  pub number : ℕ
  pub inside : number < length b
  pub place : x.place ≡ pos number
  pub channel : x.channel < channels
  pub frame : x.frame ≡ frame_at b number x.channel

-- there is a copy of this block and channel
abbrev pub Has : ℕ → ℕ → List Copy → Type 0
Has n c [] = ⊥
Has n c (x ∷ xs) = ((x.place ≡ pos n) × (x.channel ≡ c)) ⊎ Has n c xs

-- the least and the greatest place
least_below : (z : ℤ) (cs : List Copy) → least z cs ≤ℤ z
least_below z [] = omega (arith, ints)
least_below z (x ∷ xs) = let k = least_below (int_min z x.place) xs in omega (arith, ints, clamps)

least_at : (z : ℤ) (cs : List Copy) (n c : ℕ) → Has n c cs → least z cs ≤ℤ pos n
least_at z [] n c h = absurd h
least_at z (x ∷ xs) n c (inl e) = let k = least_below (int_min z x.place) xs in let p = e.0 in
    omega (arith, ints, clamps)
least_at z (x ∷ xs) n c (inr h) = least_at (int_min z x.place) xs n c h

greatest_at : (z : ℤ) (cs : List Copy) (n c : ℕ) → Has n c cs → pos n ≤ℤ greatest z cs
greatest_at z [] n c h = absurd h
greatest_at z (x ∷ xs) n c (inl e) = let k = greatest_grows (int_max z x.place) xs in let p = e.0 in
    omega (arith, ints, clamps)
greatest_at z (x ∷ xs) n c (inr h) = greatest_at (int_max z x.place) xs n c h

least_low : (ch : ℕ) (b : List (List Frame)) (z : ℤ) (cs : List Copy) → pos 0 ≤ℤ z → AllByRecursion (Tells ch b) cs
    → pos 0 ≤ℤ least z cs
least_low ch b z [] le h = le
least_low ch b z (x ∷ xs) le h = let p = h.0.place in
    least_low ch b (int_min z x.place) xs (omega (arith, ints, clamps)) h.1

greatest_high : (ch : ℕ) (b : List (List Frame)) (z : ℤ) (cs : List Copy) → z <ℤ pos (length b)
    → AllByRecursion (Tells ch b) cs → greatest z cs <ℤ pos (length b)
greatest_high ch b z [] le h = le
greatest_high ch b z (x ∷ xs) le h = let p = h.0.place in let i = h.0.inside in
    greatest_high ch b (int_max z x.place) xs (omega (arith, ints, clamps)) h.1

-- the best copy of a block and channel
at_is : (p : ℤ) (c : ℕ) (x : Copy) → is_at p c x ≡ true → (x.place ≡ p) × (x.channel ≡ c)
at_is p c x e = (grind (arith, ints), grind (arith, ints))

is_there : (p : ℤ) (c : ℕ) (x : Copy) → is_at p c x ≡ false → x.place ≡ p → x.channel ≡ c → ⊥
is_there p c x e f g = grind (arith, ints)

told : (ch : ℕ) (b : List (List Frame)) (n c : ℕ) (x : Copy) → Tells ch b x → x.place ≡ pos n → x.channel ≡ c
    → x.frame ≡ frame_at b n c
told ch b n c x t e f =
    let same : t.number ≡ n = (let p = t.place in omega (arith, ints)) in
    t.frame ∙ ap (λ k. frame_at b k x.channel) same ∙ ap (frame_at b n) f

abbrev fr : Copy → Frame
fr x = x.frame

abbrev OneOrNone : Codec → List (List Frame) → ℕ → ℕ → List Copy → Type 0
OneOrNone codec b n c cs = (best_at codec cs (pos n) c ≡ None) ⊎ (best_at codec cs (pos n) c ≡ Some (frame_at b n c))

joined : (codec : Codec) (f : Frame) (o : Option Frame) → (o ≡ None) ⊎ (o ≡ Some f) → better codec (Some f) o ≡ Some f
joined codec f o (inl e) = ap (better codec (Some f)) e ∙ none_better codec (Some f)
joined codec f o (inr e) = ap (better codec (Some f)) e ∙ better_same codec (Some f)

here : (codec : Codec) (ch : ℕ) (b : List (List Frame)) (n c : ℕ) (x : Copy) (xs : List Copy) → Tells ch b x
    → OneOrNone codec b n c xs → is_at (pos n) c x ≡ true
    → best codec (map fr (x ∷ filter (is_at (pos n) c) xs)) ≡ Some (frame_at b n c)
here codec ch b n c x xs t o e =
    let i = at_is (pos n) c x e in
    best_cons codec x.frame (map fr (filter (is_at (pos n) c) xs))
    ∙ ap (λ f. better codec (Some f) (best_at codec xs (pos n) c)) (told ch b n c x t i.0 i.1)
    ∙ joined codec (frame_at b n c) (best_at codec xs (pos n) c) o

one_or_none : (codec : Codec) (ch : ℕ) (b : List (List Frame)) (n c : ℕ) (cs : List Copy)
    → AllByRecursion (Tells ch b) cs → OneOrNone codec b n c cs
one_or_none codec ch b n c [] h = inl refl
one_or_none codec ch b n c (x ∷ xs) h =
    let o = one_or_none codec ch b n c xs h.1 in
    elim (is_at (pos n) c x) as (λ v. is_at (pos n) c x ≡ v
    → (best codec (map fr (cond v (x ∷ filter (is_at (pos n) c) xs) (filter (is_at (pos n) c) xs))) ≡ None) ⊎
    (best codec (map fr (cond v (x ∷ filter (is_at (pos n) c) xs) (filter (is_at (pos n) c) xs))) ≡ Some
    (frame_at b n c))) [
      | true ↦ λ e. inr (here codec ch b n c x xs h.0 o e)
      | false ↦ λ e. o
    ] refl

found : (codec : Codec) (ch : ℕ) (b : List (List Frame)) (n c : ℕ) (cs : List Copy) → AllByRecursion (Tells ch b) cs
    → Has n c cs → best_at codec cs (pos n) c ≡ Some (frame_at b n c)
found codec ch b n c [] h k = absurd k
found codec ch b n c (x ∷ xs) h k =
    elim (is_at (pos n) c x) as (λ v. is_at (pos n) c x ≡ v
    → best codec (map fr (cond v (x ∷ filter (is_at (pos n) c) xs) (filter (is_at (pos n) c) xs))) ≡ Some
    (frame_at b n c)) [
      | true ↦ λ e. here codec ch b n c x xs h.0 (one_or_none codec ch b n c xs h.1) e
      | false ↦ λ e. elim k [ inl i ↦ absurd (is_there (pos n) c x e i.0 i.1) | inr j ↦ found codec ch b n c xs h.1 j ]
    ] refl

-- each block has a frame for each channel
abbrev pub AreWhole : ℕ → List (List Frame) → Type 0
AreWhole ch b = AllByRecursion (λ (block : List Frame). length block ≡ ch) b

pub whole_at : (ch : ℕ) (b : List (List Frame)) (n : ℕ) → AreWhole ch b → n < length b
    → length (slice_index_or b n []) ≡ ch
whole_at ch [] n h l = absurd (omega arith)
whole_at ch (x ∷ b) zero h l = h.0
whole_at ch (x ∷ b) (suc n) h l = whole_at ch b n h.1 (omega arith)

block_is : (rules : Rules) (b : List (List Frame)) (cs : List Copy) (n : ℕ) → AreWhole rules.channels b
    → n < length b → AllByRecursion (Tells rules.channels b) cs
    → ((k c : ℕ) → k < length b → c < rules.channels → Has k c cs) → slice_index_or b n [] ≡ block_at rules cs (pos n)
block_is rules b cs n w l h k =
    fill_by_all (λ c. stored (best_at rules.codec cs (pos n) c)) (slice_index_or b n []) rules.channels no_data
    (whole_at rules.channels b n w l)
    (λ c j. sym (ap stored (found rules.codec rules.channels b n c cs h (k n c l j))))

spanned : (rules : Rules) (b : List (List Frame)) (cs : List Copy) (lo hi : ℤ) → AreWhole rules.channels b
    → AllByRecursion (Tells rules.channels b) cs
    → ((k c : ℕ) → k < length b → c < rules.channels → Has k c cs) → 1 ≤ length b → lo ≡ pos 0
    → hi ≡ pos (length b - 1) → blocks_between rules cs lo hi ≡ b
spanned rules b cs lo hi w h k l e f =
    let span : hi -ℤ lo ≡ pos (length b - 1) = omega (arith, ints) in
    let many : places_between lo hi ≡ length b = ap one_more span ∙ omega arith in
    ap (λ z. map (λ j. block_at rules cs (z +ℤ pos j)) (range_with_len 0 (places_between lo hi))) e
    ∙ ap (λ j. map (λ j. block_at rules cs (pos 0 +ℤ pos j)) (range_with_len 0 j)) many
    ∙ sym (fill_by_all (λ j. block_at rules cs (pos 0 +ℤ pos j)) b (length b) [] refl
    (λ n j. block_is rules b cs n w j h k ∙ ap (block_at rules cs) (omega (arith, ints))))

-- copies that tell blocks, all of them, release these blocks
pub spread : (rules : Rules) (b : List (List Frame)) (cs : List Copy) → 1 ≤ rules.channels
    → AreWhole rules.channels b → AllByRecursion (Tells rules.channels b) cs
    → ((n c : ℕ) → n < length b → c < rules.channels → Has n c cs) → released_of rules cs ≡ b
spread rules [] [] one w h k = refl
spread rules (y ∷ b) [] one w h k = absurd (k 0 0 (omega arith) one)
spread rules b (x ∷ xs) one w h k =
    let i = h.0.inside in
    let p = h.0.place in
    let low = least_low rules.channels b x.place xs (omega (arith, ints)) h.1 in
    let high = greatest_high rules.channels b x.place xs (omega (arith, ints)) h.1 in
    let down : least x.place xs ≤ℤ pos 0 =
    elim (k 0 0 (omega arith) one) [
      | inl e ↦
          (let q = e.0 in let j = least_below x.place xs in omega (arith, ints))
      | inr j ↦ least_at x.place xs 0 0 j
    ] in
    let up : pos (length b - 1) ≤ℤ greatest x.place xs =
    elim (k (length b - 1) 0 (omega arith) one) [
      | inl e ↦
          (let q = e.0 in let j = greatest_grows x.place xs in omega (arith, ints))
      | inr j ↦ greatest_at x.place xs
          (length b - 1) 0 j
    ] in
    spanned rules b (x ∷ xs) (least x.place xs) (greatest x.place xs) w h k (omega arith) (omega (arith, ints))
    (omega (arith, ints))
