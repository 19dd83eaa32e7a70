-- The copies of an accepted packet that says a portion of blocks and stands at its first block.
use Rattle.std.proofs.Common.{◌≡◌, ℕ, zero, suc, ◌+◌, ◌*◌, ◌/◌, ◌%◌, ◌<◌, ◌≤◌, Bool, true, cond, List, [], ◌∷◌, ◌++◌, length, map, get_or, sym, refl, ap, ◌∙◌, subst, arith, ℤ, pos, ◌+ℤ◌, inl, inr, ◌⊎◌}
use Rattle.std.specs.Prelude.{◌≤ℤ◌, filter, flat_map}
use Rattle.std.specs.List.{range_with_len, AllByRecursion}
use Rattle.std.proofs.lemmas.Bool.{cases_lt}
use Rattle.std.proofs.lemmas.Int.{ints}
use Rattle.std.proofs.lemmas.List.{length-append, get_or_append_left, get_or-append-add}
use Rattle.std.proofs.lemmas.List.FromFn.{length-map-range_with_len, get_or-map-range_with_len}
use Rattle.std.proofs.lemmas.Nat.{div-mul-add, mod-mul-add, div_below, mod_below, div-add-mod'}
use Rattle.std.proofs.Math.Nat.{mul-le-mul_left}
use Rattle.amr_frame.specs.Frames.{Frame, no_data}
use Rattle.sending_laws.proofs.Portioned.{IsPart, all_map}
use Rattle.return_laws.proofs.Spread.{AreWhole, Tells, Has, frame_at, whole_at}
use Rattle.spec_session.specs.Copies.{Copy, copies_in, copy_at, in_time}
use Rattle.spec_session.specs.Packets.{Packet}
use Rattle.spec_session.specs.Session.{Rules, Accepted, block_place, blocks_in}
use Rattle.spec_sending.specs.Portions.{Portion}
use Rattle.spec_sending.specs.Sending.{block_of, blocks_of}

-- pieces of one length, joined
joined_length : (ch : ℕ) (bs : List (List Frame)) → AreWhole ch bs → length (flat_map (λ y. y) bs) ≡ length bs * ch
joined_length ch [] h = omega arith
joined_length ch (x ∷ bs) h = let r = joined_length ch bs h.1 in let e = h.0 in
    length-append x (flat_map (λ y. y) bs) ∙ omega arith

joined_at : (ch : ℕ) (bs : List (List Frame)) (k j : ℕ) → AreWhole ch bs → k < length bs → j < ch
    → get_or (flat_map (λ y. y) bs) (k * ch + j) no_data ≡ get_or (get_or bs k []) j no_data
joined_at ch [] k j h l i = absurd (omega arith)
joined_at ch (x ∷ bs) zero j h l i =
    let e = h.0 in
    ap (λ n. get_or (x ++ flat_map (λ y. y) bs) n no_data) (omega arith)
    ∙ get_or_append_left x (flat_map (λ y. y) bs) no_data j (omega arith)
joined_at ch (x ∷ bs) (suc k) j h l i =
    let e = h.0 in
    ap (λ n. get_or (x ++ flat_map (λ y. y) bs) n no_data)
    (let s : suc k * ch + j ≡ length x + (k * ch + j) = omega arith in s)
    ∙ get_or-append-add x (flat_map (λ y. y) bs) (k * ch + j) no_data ∙ joined_at ch bs k j h.1 (omega arith) i

-- a packet says the blocks of a portion
pub record Says (b : List (List Frame)) (p : Portion) (x : Packet) : Type 0 where
  pub stride : x.value.stride ≡ p.stride
  pub frames : x.value.frames ≡ flat_map (λ y. y) (blocks_of b p)

blocks_whole : (ch : ℕ) (b : List (List Frame)) (p : Portion) → AreWhole ch b → IsPart (length b) p
    → AreWhole ch (blocks_of b p)
blocks_whole ch b p w i =
    all_map (λ (block : List Frame). length block ≡ ch) (λ k. block_of b (p.first + k * p.stride)) 0 p.count
    (λ k l. whole_at ch b (p.first + k * p.stride) w (i.inside k (omega arith)))

pub frame_count : (ch : ℕ) (b : List (List Frame)) (p : Portion) (x : Packet) → AreWhole ch b → IsPart (length b) p
    → Says b p x → length x.value.frames ≡ p.count * ch
frame_count ch b p x w i s =
    ap length s.frames ∙ joined_length ch (blocks_of b p) (blocks_whole ch b p w i)
    ∙ ap (λ n. n * ch) (length-map-range_with_len (λ k. block_of b (p.first + k * p.stride)) 0 p.count)

-- frame k * ch + j is frame j of block k of the portion
frame_said : (ch : ℕ) (b : List (List Frame)) (p : Portion) (x : Packet) (k j : ℕ) → AreWhole ch b
    → IsPart (length b) p → Says b p x → k < p.count → j < ch
    → get_or x.value.frames (k * ch + j) no_data ≡ frame_at b (p.first + k * p.stride) j
frame_said ch b p x k j w i s l m =
    let n : length (blocks_of b p) ≡ p.count =
    length-map-range_with_len (λ k. block_of b (p.first + k * p.stride)) 0 p.count in
    ap (λ fs. get_or fs (k * ch + j) no_data) s.frames
    ∙ joined_at ch (blocks_of b p) k j (blocks_whole ch b p w i) (omega arith) m
    ∙ ap (λ (block : List Frame). get_or block j no_data)
    (get_or-map-range_with_len (λ k. block_of b (p.first + k * p.stride)) 0 p.count k k [] l (omega arith))

pub block_count_is : (rules : Rules) (b : List (List Frame)) (p : Portion) (x : Packet) → 1 ≤ rules.channels
    → AreWhole rules.channels b → IsPart (length b) p → Says b p x → blocks_in rules x.value ≡ p.count
block_count_is rules b p x one w i s =
    ap (λ n. n / rules.channels) (frame_count rules.channels b p x w i s ∙ omega arith)
    ∙ div-mul-add p.count rules.channels 0 one

-- where an accepted packet stands
pub record StandsAt (rules : Rules) (b : List (List Frame)) (p : Portion) (a : Accepted) : Type 0 where
  pub part : IsPart (length b) p
  pub says : Says b p a.packet
  pub place : a.place ≡ pos p.first
  pub timely : (z : ℤ) → pos p.first ≤ℤ z → in_time rules a z ≡ true

below_row : (n k ch c : ℕ) → k < n → c < ch → k * ch + c < n * ch
below_row n k ch c l m = let h = mul-le-mul_left ch (let s : k + 1 ≤ n = omega arith in s) in omega (arith, h)

copy_tells : (rules : Rules) (b : List (List Frame)) (p : Portion) (a : Accepted) (i : ℕ) → 1 ≤ rules.channels
    → AreWhole rules.channels b → StandsAt rules b p a → i < p.count * rules.channels
    → Tells rules.channels b (copy_at rules a i)
copy_tells rules b p a i one w s l =
    let ch = rules.channels in
    let k : i / ch < p.count = div_below i ch p.count one l in
    let j : i % ch < ch = mod_below i ch one in
    let stride = s.says.stride in
    let place = s.place in
    record {
      number = p.first + i / ch * p.stride;
      inside = s.part.inside (i / ch) k;
      place = ap (λ z. z +ℤ pos (i / ch * a.packet.value.stride)) place
          ∙ ap (λ n. pos p.first +ℤ pos (i / ch * n)) stride ∙ omega (arith, ints);
      channel = j;
      frame = ap (λ n. get_or a.packet.value.frames n no_data) (sym (div-add-mod' i ch))
          ∙ frame_said ch b p a.packet (i / ch) (i % ch) w s.part s.says k j;
    }

pub filter_all : {X : Type 0} (test : X → Bool) (xs : List X) → AllByRecursion (λ x. test x ≡ true) xs
    → filter test xs ≡ xs
filter_all test [] h = refl
filter_all test (x ∷ xs) h =
    ap (λ v. cond v (x ∷ filter test xs) (filter test xs)) h.0 ∙ ap (λ l. x ∷ l) (filter_all test xs h.1)

in_time_all : (rules : Rules) (b : List (List Frame)) (p : Portion) (a : Accepted) (n : ℕ) → StandsAt rules b p a
    → filter (λ (c : Copy). in_time rules a c.place) (map (copy_at rules a) (range_with_len 0 n)) ≡ map
    (copy_at rules a) (range_with_len 0 n)
in_time_all rules b p a n s =
    filter_all (λ (c : Copy). in_time rules a c.place) (map (copy_at rules a) (range_with_len 0 n))
    (all_map (λ (c : Copy). in_time rules a c.place ≡ true) (copy_at rules a) 0 n
    (λ k _. s.timely (block_place a (k / rules.channels)) (let e = s.place in omega (arith, ints))))

pub copies_are : (rules : Rules) (b : List (List Frame)) (p : Portion) (a : Accepted) → AreWhole rules.channels b
    → StandsAt rules b p a
    → copies_in rules a ≡ map (copy_at rules a) (range_with_len 0 (p.count * rules.channels))
copies_are rules b p a w s =
    in_time_all rules b p a (length a.packet.value.frames) s
    ∙ ap (λ n. map (copy_at rules a) (range_with_len 0 n)) (frame_count rules.channels b p a.packet w s.part s.says)

-- each copy tells a block
pub copies_tell : (rules : Rules) (b : List (List Frame)) (p : Portion) (a : Accepted) → 1 ≤ rules.channels
    → AreWhole rules.channels b → StandsAt rules b p a
    → AllByRecursion (Tells rules.channels b) (copies_in rules a)
copies_tell rules b p a one w s =
    subst (AllByRecursion (Tells rules.channels b)) (sym (copies_are rules b p a w s))
    (all_map (Tells rules.channels b) (copy_at rules a) 0 (p.count * rules.channels)
    (λ i l. copy_tells rules b p a i one w s (omega arith)))

-- a number is at most another or above it
cases_le_lt : (i a : ℕ) → (i ≤ a) ⊎ (a < i)
cases_le_lt i a = elim (cases_lt a i) [ inl l ↦ inr l | inr l ↦ inl l ]

has_in_range : (n c : ℕ) (f : ℕ → Copy) (a m i : ℕ) → a ≤ i → i < a + m → (f i).place ≡ pos n → (f i).channel ≡ c
    → Has n c (map f (range_with_len a m))
has_in_range n c f a zero i l m e d = absurd (omega arith)
has_in_range n c f a (suc m) i l u e d =
    elim (cases_le_lt i a) [
      | inl le ↦
          (let same : i ≡ a = omega arith in inl (subst (λ j. ((f j).place ≡ pos n) × ((f j).channel ≡ c)) same (e, d)))
      | inr lt ↦ inr (has_in_range n c f (a + 1) m i (omega arith) (omega arith) e d)
    ]

-- and each block of the portion has one in each channel
pub has_copies : (rules : Rules) (b : List (List Frame)) (p : Portion) (a : Accepted) (k c : ℕ) → 1 ≤ rules.channels
    → AreWhole rules.channels b → StandsAt rules b p a → k < p.count → c < rules.channels
    → Has (p.first + k * p.stride) c (copies_in rules a)
has_copies rules b p a k c one w s l m =
    let ch = rules.channels in
    let q : (k * ch + c) / ch ≡ k = div-mul-add k ch c m in
    let r : (k * ch + c) % ch ≡ c = mod-mul-add k ch c m in
    subst (Has (p.first + k * p.stride) c) (sym (copies_are rules b p a w s))
    (has_in_range (p.first + k * p.stride) c (copy_at rules a) 0 (p.count * ch) (k * ch + c) (omega arith)
    (let br = below_row p.count k ch c l m in omega (arith, br))
    (ap (λ n. a.place +ℤ pos (n * a.packet.value.stride)) q ∙ ap (λ z. z +ℤ pos (k * a.packet.value.stride)) s.place
    ∙ ap (λ n. pos p.first +ℤ pos (k * n)) s.says.stride ∙ omega (arith, ints)) r)
