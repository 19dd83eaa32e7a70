-- The packets of a plan by their portions: those begun, those sent, and those that a block completes or that are left.
use Rattle.std.proofs.Common.{◌≡◌, ◌⊎◌, inl, inr, ℕ, zero, suc, ◌+◌, ◌-◌, ◌*◌, ◌/◌, ◌<◌, ◌≤◌, min, Bool, true, false, not, cond, List, [], ◌∷◌, ◌++◌, length, map, drop, flat_map, sym, refl, ap, ◌∙◌, subst, arith, append-nil}
use Rattle.std.specs.Prelude.{◌&&◌, filter, nat_eq, nat_lt}
use Rattle.std.specs.List.{enumerate_from, range_with_len, list_all}
use Rattle.std.proofs.lemmas.List.{get_or-drop, length-append, length-map, map-append}
use Rattle.std.proofs.lemmas.List.Elements.{filter-append}
use Rattle.std.proofs.lemmas.List.FromFn.{length-enumerate_from, map-range_with_len_more}
use Rattle.std.proofs.lemmas.Nat.{div-mul-add, mod-mul-add}
use Rattle.amr_frame.specs.Frames.{Frame}
use Rattle.amr_sender.proofs.Counting.{Counted, one_turn, pieces_more, pieces_whole}
use Rattle.amr_sender.proofs.Plans.{facts}
use Rattle.amr_sender.specs.Held.{full_in, held_packet, held_packets, left_in, marks_in, rest_in, rests_in, spoken_in, turn_in, turns_in, whole_in}
use Rattle.amr_sender.specs.Packets.{packet_with, speech_before}
use Rattle.amr_sender.specs.declared.packet.Behind.{Behind}
use Rattle.sending_laws.proofs.Portioned.{begun_parts, map_same, piece_stays}
use Rattle.sending_laws.proofs.Staying.{packets, packets_stay}
use Rattle.spec_sending.specs.Plans.{IsPlan}
use Rattle.spec_sending.specs.Portions.{Portion, begun_portions, grouped, piece_at, pieces, portions, rest_at, rests, turn_at, turns}
use Rattle.spec_sending.specs.Sending.{begun, block_of, blocks_of, carried, has_speech, is_empty, is_sent, marks, packet_of, sent, trimmed}
use Rattle.spec_sending.specs.declared.plan.SendPlan.{SendPlan}

-- ---- lists

pub enumerate_append : {X : Type 0} (a : ℕ) (xs ys : List X)
    → enumerate_from a (xs ++ ys) ≡ enumerate_from a xs ++ enumerate_from (a + length xs) ys
enumerate_append a [] ys = ap (λ k. enumerate_from k ys) (let e : a ≡ a + 0 = omega arith in e)
enumerate_append a (x ∷ xs) ys =
    ap (λ l. (a, x) ∷ l) (enumerate_append (a + 1) xs ys
    ∙ ap (λ k. enumerate_from (a + 1) xs ++ enumerate_from k ys)
    (let e : a + 1 + length xs ≡ a + suc (length xs) = omega arith in e))

-- a range and what follows it
pub range_append : {X : Type 0} (f : ℕ → X) (a n k : ℕ)
    → map f (range_with_len a (n + k)) ≡ map f (range_with_len a n) ++ map f (range_with_len (a + n) k)
range_append f a zero k =
    let e : 0 + k ≡ k = omega arith in
    let z : a ≡ a + 0 = omega arith in
    λ i. map f (range_with_len (z i) (e i))
range_append f a (suc n) k =
    let e : suc n + k ≡ suc (n + k) = omega arith in
    let z : a + 1 + n ≡ a + suc n = omega arith in
    ap (λ m. map f (range_with_len a m)) e
    ∙ ap (λ l. f a ∷ l) (range_append f (a + 1) n k)
    ∙ ap (λ m. f a ∷ map f (range_with_len (a + 1) n) ++ map f (range_with_len m k)) z

-- a list by numbers, with one more
pub one_further : {X : Type 0} (f : ℕ → X) (i : ℕ)
    → map f (range_with_len 0 (i + 1)) ≡ map f (range_with_len 0 i) ++ f i ∷ []
one_further f i = map-range_with_len_more f 0 i i (let e : 0 + i ≡ i = omega arith in e)

-- functions that are equal over two ranges, one of them in two steps
moved : {X Y : Type 0} (f : ℕ → X) (g : ℕ → Y) (h : Y → X) (a c n : ℕ)
    → ((k : ℕ) → k < n → f (a + k) ≡ h (g (c + k))) → map f (range_with_len a n) ≡ map h (map g (range_with_len c n))
moved f g h a c zero same = refl
moved f g h a c (suc n) same =
    let first : f a ≡ h (g c) =
    ap f (let e : a ≡ a + 0 = omega arith in e) ∙ same 0 (omega arith) ∙ ap (λ k. h (g k)) (let e : c + 0 ≡ c = omega arith in e) in
    let rest = moved f g h (a + 1) (c + 1) n
    (λ k l. ap f (let e : a + 1 + k ≡ a + (1 + k) = omega arith in e) ∙ same (1 + k) (omega (arith, l))
    ∙ ap (λ k. h (g k)) (let e : c + (1 + k) ≡ c + 1 + k = omega arith in e)) in
    λ i. first i ∷ rest i

-- ---- portions

-- a portion of blocks that stand behind so many others
abbrev pub behind : ℕ → Portion → Portion
behind base p = record { first = base + p.first; stride = p.stride; index = p.index; count = p.count }

group_one : (s : SendPlan) → s.length ≡ 1 → s.blocks * s.length ≡ s.blocks
group_one s one = ap (λ l. s.blocks * l) one ∙ (let e : s.blocks * 1 ≡ s.blocks = omega arith in e)

-- packet k of group g
turn_of : (s : SendPlan) (g k : ℕ) → k < s.length
    → ((turn_at s (g * s.length + k)).first ≡ g * (s.blocks * s.length) + k) × ((turn_at s (g * s.length + k)).index ≡ k)
turn_of s g k l =
    let d = div-mul-add g s.length k l in
    let m = mod-mul-add g s.length k l in
    ((λ i. d i * (s.blocks * s.length) + m i), m)

pub begun_if : (s : SendPlan) (m : ℕ) (z : Bool) → nat_eq s.length 1 ≡ z
    → begun_portions s m ≡ cond z (map (piece_at s m) (range_with_len 0 (m / s.blocks))) (turns s m)
begun_if s m z e = ap (λ b. cond b (map (piece_at s m) (range_with_len 0 (m / s.blocks))) (turns s m)) e

sent_if : (s : SendPlan) (m : ℕ) (z : Bool) → nat_eq s.length 1 ≡ z
    → portions s m ≡ cond z (map (piece_at s m) (range_with_len 0 (pieces s.blocks m))) (turns s m ++ rests s m)
sent_if s m z e =
    ap (λ b. cond b (map (piece_at s m) (range_with_len 0 (pieces s.blocks m))) (turns s m ++ rests s m)) e

-- the packet of consecutive blocks that carries the last of m blocks, and all that are held
last_piece : (s : SendPlan) (m g base k : ℕ) → base ≡ g * s.blocks - s.repeat → base + k ≡ m → m ≤ g * s.blocks + s.blocks
    → g * s.blocks ≤ m → piece_at s m g ≡ behind base (whole_in k)
last_piece s m g base k is all le low =
    let first : g * s.blocks - s.repeat ≡ base + 0 = omega (arith, is) in
    let count : min (g * s.blocks + s.blocks) m - (g * s.blocks - s.repeat) ≡ k = omega (arith, is, all, le, low) in
    λ x. record { first = first x; stride = 1; index = 0; count = count x }

piece_more : (s : SendPlan) (m g h base k : ℕ) → nat_eq s.length 1 ≡ true → Counted m s.blocks g h
    → Counted (m + 1) s.blocks (g + 1) 0 → base ≡ g * s.blocks - s.repeat → base + k ≡ m + 1
    → begun_portions s (m + 1) ≡ begun_portions s m ++ behind base (whole_in k) ∷ []
piece_more s m g h base k e c d is all =
    let t = one_turn g s.blocks in
    let whole = c.whole in
    let a = d.all in
    let front : map (piece_at s (m + 1)) (range_with_len 0 g) ≡ map (piece_at s m) (range_with_len 0 (m / s.blocks)) =
    map_same (piece_at s (m + 1)) (piece_at s m) 0 g (λ i l. sym (piece_stays s m 1 i (omega (arith, l, whole))))
    ∙ ap (λ w. map (piece_at s m) (range_with_len 0 w)) (sym whole) in
    let last = last_piece s (m + 1) g base k is all (omega (arith, a, t)) (omega (arith, a, t)) in
    begun_if s (m + 1) true e
    ∙ ap (λ w. map (piece_at s (m + 1)) (range_with_len 0 w)) d.whole
    ∙ one_further (piece_at s (m + 1)) g
    ∙ (λ x. front x ++ last x ∷ [])
    ∙ ap (λ l. l ++ behind base (whole_in k) ∷ []) (sym (begun_if s m true e))

turns_more : (s : SendPlan) (m g h base : ℕ) → nat_eq s.length 1 ≡ false → s.repeat ≡ 0
    → Counted m (s.blocks * s.length) g h → Counted (m + 1) (s.blocks * s.length) (g + 1) 0
    → base ≡ g * (s.blocks * s.length) - s.repeat
    → begun_portions s (m + 1) ≡ begun_portions s m ++ map (behind base) (turns_in s s.length)
turns_more s m g h base e none c d is =
    let l = s.length in
    let t : (g + 1) * l ≡ g * l + l = grind arith in
    let number : (m + 1) / (s.blocks * l) * l ≡ g * l + l = ap (λ q. q * l) d.whole ∙ t in
    let front : map (turn_at s) (range_with_len 0 (g * l)) ≡ begun_portions s m =
    ap (λ q. map (turn_at s) (range_with_len 0 (q * l))) (sym c.whole) ∙ sym (begun_if s m false e) in
    let back : map (turn_at s) (range_with_len (0 + g * l) l) ≡ map (behind base) (turns_in s l) =
    moved (turn_at s) (turn_in s) (behind base) (0 + g * l) 0 l
    (λ i lt. let z : 0 + g * l + i ≡ g * l + i = omega arith in
    let of = turn_of s g i lt in
    let u : g * (s.blocks * l) + i ≡ base + (0 + i) = omega (arith, is, none) in
    let v : i ≡ 0 + i = omega arith in
    ap (turn_at s) z
    ∙ (λ x. record { first = (of.0 ∙ u) x; stride = l; index = (of.1 ∙ v) x; count = s.blocks })) in
    begun_if s (m + 1) false e
    ∙ ap (λ w. map (turn_at s) (range_with_len 0 w)) number
    ∙ range_append (turn_at s) 0 (g * l) l
    ∙ (λ x. front x ++ back x)

pub no_repeat : (s : SendPlan) → nat_eq s.length 1 ≡ false → (s.repeat ≡ 0) ⊎ (s.length ≡ 1) → s.repeat ≡ 0
no_repeat s e (inl none) = none
no_repeat s e (inr one) = absurd (grind (arith, e, one))

-- what is begun by the last of m + 1 blocks, of which k are held from block `base` on
pub full_more : (s : SendPlan) (m g h base k : ℕ) (z : Bool) → nat_eq s.length 1 ≡ z → IsPlan s
    → Counted m (s.blocks * s.length) g h → Counted (m + 1) (s.blocks * s.length) (g + 1) 0
    → base ≡ g * (s.blocks * s.length) - s.repeat → base + k ≡ m + 1
    → begun_portions s (m + 1) ≡ begun_portions s m ++ map (behind base) (full_in s k)
full_more s m g h base k true e plan c d is all =
    let one : s.length ≡ 1 = grind (arith, e) in
    let n = group_one s one in
    piece_more s m g h base k e (subst (λ w. Counted m w g h) n c) (subst (λ w. Counted (m + 1) w (g + 1) 0) n d)
    (is ∙ ap (λ w. g * w - s.repeat) n) all
    ∙ ap (λ b. begun_portions s m ++ map (behind base) (cond b (whole_in k ∷ []) (turns_in s s.length))) (sym e)
full_more s m g h base k false e plan c d is all =
    turns_more s m g h base e (no_repeat s e (facts s plan).again) c d is
    ∙ ap (λ b. begun_portions s m ++ map (behind base) (cond b (whole_in k ∷ []) (turns_in s s.length))) (sym e)

-- no packet is begun by a block
pub none_more : (s : SendPlan) (m : ℕ) (z : Bool) → nat_eq s.length 1 ≡ z
    → (m + 1) / (s.blocks * s.length) ≡ m / (s.blocks * s.length) → begun_portions s (m + 1) ≡ begun_portions s m
none_more s m true e same =
    let one : s.length ≡ 1 = grind (arith, e) in
    let n = group_one s one in
    let q : (m + 1) / s.blocks ≡ m / s.blocks = sym (ap (λ w. (m + 1) / w) n) ∙ same ∙ ap (λ w. m / w) n in
    begun_if s (m + 1) true e
    ∙ ap (λ w. map (piece_at s (m + 1)) (range_with_len 0 w)) q
    ∙ map_same (piece_at s (m + 1)) (piece_at s m) 0 (m / s.blocks)
    (λ i l. sym (piece_stays s m 1 i (omega (arith, l))))
    ∙ sym (begun_if s m true e)
none_more s m false e same =
    begun_if s (m + 1) false e ∙ ap (λ q. map (turn_at s) (range_with_len 0 (q * s.length))) same
    ∙ sym (begun_if s m false e)

piece_left : (s : SendPlan) (m g h base k : ℕ) → nat_eq s.length 1 ≡ true → 1 ≤ s.blocks → Counted m s.blocks g h
    → base ≡ g * s.blocks - s.repeat → base + k ≡ m
    → portions s m ≡ begun_portions s m ++ map (behind base) (cond (nat_eq h 0) [] (whole_in k ∷ []))
piece_left s m g zero base k e one c is all =
    sent_if s m true e
    ∙ ap (λ w. map (piece_at s m) (range_with_len 0 w)) (pieces_whole m s.blocks g c one ∙ sym c.whole)
    ∙ sym (begun_if s m true e) ∙ sym (append-nil (begun_portions s m))
piece_left s m g (suc h) base k e one c is all =
    let a = c.all in
    let l = c.less in
    let last = last_piece s m g base k is all (omega (arith, a, l)) (omega (arith, a)) in
    sent_if s m true e
    ∙ ap (λ w. map (piece_at s m) (range_with_len 0 w)) (pieces_more m s.blocks g (suc h) c (omega arith))
    ∙ one_further (piece_at s m) g
    ∙ (λ x. map (piece_at s m) (range_with_len 0 (sym c.whole x)) ++ last x ∷ [])
    ∙ ap (λ xs. xs ++ behind base (whole_in k) ∷ []) (sym (begun_if s m true e))
    ∙ ap (λ v. begun_portions s m ++ map (behind base) (cond v [] (whole_in k ∷ [])))
    (let later : false ≡ nat_eq (suc h) 0 = grind arith in later)

rests_left : (s : SendPlan) (m base k : ℕ) → grouped s m ≡ base → base + k ≡ m
    → rests s m ≡ map (behind base) (rests_in s k (pieces s.blocks k))
rests_left s m base k is all =
    let size : m - grouped s m ≡ k = omega (arith, is, all) in
    ap (λ w. map (rest_at s m) (range_with_len 0 (pieces s.blocks w))) size
    ∙ moved (rest_at s m) (rest_in s k) (behind base) 0 0 (pieces s.blocks k)
    (λ i l. let first : grouped s m + (0 + i) * s.blocks ≡ base + (0 + i) * s.blocks = omega (arith, is) in
    let count : min s.blocks (m - (grouped s m + (0 + i) * s.blocks)) ≡ min s.blocks (k - (0 + i) * s.blocks) =
    omega (arith, is, all) in
    λ x. record { first = first x; stride = 1; index = 0; count = count x })

-- what is sent of m blocks and not begun, where k are held and the last h were in no packet yet
pub left_more : (s : SendPlan) (m g h base k : ℕ) (z : Bool) → nat_eq s.length 1 ≡ z → IsPlan s
    → Counted m (s.blocks * s.length) g h → base ≡ g * (s.blocks * s.length) - s.repeat → base + k ≡ m
    → portions s m ≡ begun_portions s m ++ map (behind base) (left_in s h k)
left_more s m g h base k true e plan c is all =
    let one : s.length ≡ 1 = grind (arith, e) in
    let n = group_one s one in
    piece_left s m g h base k e (facts s plan).blocks (subst (λ w. Counted m w g h) n c)
    (is ∙ ap (λ w. g * w - s.repeat) n) all
    ∙ ap (λ b. begun_portions s m ++ map (behind base)
    (cond b (cond (nat_eq h 0) [] (whole_in k ∷ [])) (rests_in s k (pieces s.blocks k)))) (sym e)
left_more s m g h base k false e plan c is all =
    let none = no_repeat s e (facts s plan).again in
    let whole : grouped s m ≡ base = ap (λ q. q * (s.blocks * s.length)) c.whole ∙ omega (arith, is, none) in
    sent_if s m false e
    ∙ (λ x. sym (begun_if s m false e) x ++ rests_left s m base k whole all x)
    ∙ ap (λ b. begun_portions s m ++ map (behind base)
    (cond b (cond (nat_eq h 0) [] (whole_in k ∷ [])) (rests_in s k (pieces s.blocks k)))) (sym e)

-- ---- the packets of the blocks held

-- what a sender knows of the blocks behind the first so many
pub record Stands (s : SendPlan) (b : List (List Frame)) (base : ℕ) (x : Behind) (held : List (List Frame)) : Type 0 where
  pub blocks_are : held ≡ drop base b
  pub blocks : x.blocks ≡ base
  pub spoken : x.spoken ≡ speech_before s b base

block_held : (b : List (List Frame)) (base i : ℕ) → block_of (drop base b) i ≡ block_of b (base + i)
block_held b base i = get_or-drop base b i []

pub spoken_held : (s : SendPlan) (b : List (List Frame)) (base at : ℕ) (spoken : Bool) → spoken ≡ speech_before s b base
    → spoken_in s.profile.codec spoken (drop base b) at ≡ speech_before s b (base + at)
spoken_held s b base zero spoken is = is ∙ ap (speech_before s b) (let e : base ≡ base + 0 = omega arith in e)
spoken_held s b base (suc at) spoken is =
    let some : nat_lt 0 (base + suc at) ≡ true = grind arith in
    let later : nat_eq (suc at) 0 ≡ false = grind arith in
    let place : base + (suc at - 1) ≡ base + suc at - 1 = omega arith in
    let before : has_speech s.profile.codec (block_of (drop base b) (suc at - 1)) ≡ has_speech s.profile.codec (block_of b (base + suc at - 1)) =
    ap (has_speech s.profile.codec) (block_held b base (suc at - 1) ∙ ap (block_of b) place) in
    (λ i. cond (later i) spoken (has_speech s.profile.codec (block_of (drop base b) (suc at - 1))))
    ∙ (λ i. sym some i && before i)

marker_held : (s : SendPlan) (b : List (List Frame)) (base at : ℕ) (spoken : Bool)
    → spoken ≡ speech_before s b base → marks_in s.profile.codec spoken (drop base b) at ≡ marks s b (base + at)
marker_held s b base at spoken is =
    λ i. has_speech s.profile.codec (block_held b base at i) && not (spoken_held s b base at spoken is i)

blocks_held : (b : List (List Frame)) (base : ℕ) (p : Portion) → blocks_of (drop base b) p ≡ blocks_of b (behind base p)
blocks_held b base p =
    map_same (λ k. block_of (drop base b) (p.first + k * p.stride)) (λ k. block_of b (base + p.first + k * p.stride)) 0 p.count
    (λ k l. block_held b base (p.first + k * p.stride)
    ∙ ap (block_of b) (let e : base + (p.first + k * p.stride) ≡ base + p.first + k * p.stride = omega arith in e))

sent_held : (s : SendPlan) (b : List (List Frame)) (base : ℕ) (p : Portion)
    → is_sent s b (behind base p) ≡ is_sent s (drop base b) p
sent_held s b base p = ap (λ l. not (s.skip_empty && list_all is_empty l)) (sym (blocks_held b base p))

packet_held : (s : SendPlan) (b : List (List Frame)) (base : ℕ) (y : Behind) (n a : ℕ) (p : Portion) → y.blocks ≡ base
    → y.spoken ≡ speech_before s b base → n ≡ y.packets
    → packet_of s b (n + a, behind base p) ≡ held_packet s y (drop base b) (a, p)
packet_held s b base y n a p blocks spoken number =
    let marker = sym (marker_held s b base p.first y.spoken spoken) in
    let frames : flat_map (λ x. x) (carried s b (behind base p)) ≡ flat_map (λ x. x) (carried s (drop base b) p) =
    ap (λ l. flat_map (λ x. x) (cond (s.skip_empty && nat_eq s.length 1) (trimmed l) l)) (sym (blocks_held b base p)) in
    λ z. packet_with s (record {
      marked = marker z;
      number = number z + a;
      first = sym blocks z + p.first;
      stride = p.stride;
      index = p.index;
    }) (frames z)

all_held : (s : SendPlan) (b : List (List Frame)) (base : ℕ) (y : Behind) (n a : ℕ) (ps : List Portion) → y.blocks ≡ base
    → y.spoken ≡ speech_before s b base → n ≡ y.packets
    → packets s b (n + a) (map (behind base) ps)
    ≡ map (held_packet s y (drop base b)) (enumerate_from a (filter (is_sent s (drop base b)) ps))
all_held s b base y n a [] blocks spoken number = refl
all_held s b base y n a (p ∷ ps) blocks spoken number =
    let held = drop base b in
    let rest = filter (is_sent s b) (map (behind base) ps) in
    ap (λ v. map (packet_of s b) (enumerate_from (n + a) (cond v (behind base p ∷ rest) rest))) (sent_held s b base p)
    ∙ (elim (is_sent s held p) as (λ v. map (packet_of s b) (enumerate_from (n + a) (cond v (behind base p ∷ rest) rest))
    ≡ map (held_packet s y held) (enumerate_from a (cond v (p ∷ filter (is_sent s held) ps) (filter (is_sent s held) ps)))) [
      | true ↦ ap (λ q. q ∷ packets s b (n + a + 1) (map (behind base) ps)) (packet_held s b base y n a p blocks spoken number)
          ∙ ap (λ k. held_packet s y held (a, p) ∷ packets s b k (map (behind base) ps)) (let e : n + a + 1 ≡ n + (a + 1) = omega arith in e)
          ∙ ap (λ l. held_packet s y held (a, p) ∷ l) (all_held s b base y n (a + 1) ps blocks spoken number)
      | false ↦ all_held s b base y n a ps blocks spoken number
    ])

length_packets : (s : SendPlan) (b : List (List Frame)) (ps : List Portion)
    → length (filter (is_sent s b) ps) ≡ length (packets s b 0 ps)
length_packets s b ps =
    sym (length-map (enumerate_from 0 (filter (is_sent s b) ps)) (packet_of s b)
    ∙ length-enumerate_from 0 (filter (is_sent s b) ps))

-- portions of the blocks held behind others
more_packets : (s : SendPlan) (b : List (List Frame)) (base : ℕ) (y : Behind) (held : List (List Frame))
    (ps qs : List Portion) → Stands s b base y held → y.packets ≡ length (packets s b 0 ps)
    → packets s b 0 (ps ++ map (behind base) qs) ≡ packets s b 0 ps ++ held_packets s y held qs
more_packets s b base y held ps qs st number =
    let F = filter (is_sent s b) ps in
    let G = filter (is_sent s b) (map (behind base) qs) in
    let n = length F in
    ap (λ l. map (packet_of s b) (enumerate_from 0 l)) (filter-append (is_sent s b) ps (map (behind base) qs))
    ∙ ap (map (packet_of s b)) (enumerate_append 0 F G)
    ∙ map-append (packet_of s b) (enumerate_from 0 F) (enumerate_from (0 + n) G)
    ∙ ap (λ k. packets s b 0 ps ++ map (packet_of s b) (enumerate_from k G)) (let e : 0 + n ≡ n + 0 = omega arith in e)
    ∙ ap (λ l. packets s b 0 ps ++ l) (all_held s b base y n 0 qs st.blocks st.spoken (length_packets s b ps ∙ sym number))
    ∙ ap (λ l. packets s b 0 ps ++ held_packets s y l qs) (sym st.blocks_are)

-- ---- what a block more, and the end, add

begun_yet : (s : SendPlan) (b : List (List Frame)) (x : List Frame) → IsPlan s
    → packets s (b ++ x ∷ []) 0 (begun_portions s (length b)) ≡ begun s b
begun_yet s b x plan =
    let k = facts s plan in
    packets_stay s b (x ∷ []) 0 (begun_portions s (length b)) (begun_parts s (length b) k.blocks k.length)

begun_one : (s : SendPlan) (b : List (List Frame)) (x : List Frame)
    → begun s (b ++ x ∷ []) ≡ packets s (b ++ x ∷ []) 0 (begun_portions s (length b + 1))
begun_one s b x = ap (λ m. packets s (b ++ x ∷ []) 0 (begun_portions s m)) (length-append b (x ∷ []))

-- no packet is begun by a block
pub begun_no_more : (s : SendPlan) (b : List (List Frame)) (x : List Frame) → IsPlan s
    → (length b + 1) / (s.blocks * s.length) ≡ length b / (s.blocks * s.length) → begun s (b ++ x ∷ []) ≡ begun s b
begun_no_more s b x plan same =
    begun_one s b x ∙ ap (packets s (b ++ x ∷ []) 0) (none_more s (length b) (nat_eq s.length 1) refl same)
    ∙ begun_yet s b x plan

-- the packets that a block begins
pub begun_full : (s : SendPlan) (b : List (List Frame)) (x : List Frame) (g h base : ℕ) (y : Behind)
    (held : List (List Frame)) → IsPlan s → Counted (length b) (s.blocks * s.length) g h
    → Counted (length b + 1) (s.blocks * s.length) (g + 1) 0 → base ≡ g * (s.blocks * s.length) - s.repeat
    → base + length held ≡ length b + 1 → Stands s (b ++ x ∷ []) base y held → y.packets ≡ length (begun s b)
    → begun s (b ++ x ∷ []) ≡ begun s b ++ held_packets s y held (full_in s (length held))
begun_full s b x g h base y held plan c d is all st number =
    let ps = begun_portions s (length b) in
    let yet = begun_yet s b x plan in
    begun_one s b x
    ∙ ap (packets s (b ++ x ∷ []) 0) (full_more s (length b) g h base (length held) (nat_eq s.length 1) refl plan c d is all)
    ∙ more_packets s (b ++ x ∷ []) base y held ps (full_in s (length held)) st (number ∙ ap length (sym yet))
    ∙ ap (λ l. l ++ held_packets s y held (full_in s (length held))) yet

-- the packets of the rest are what is sent further
pub sent_left : (s : SendPlan) (b : List (List Frame)) (g h base : ℕ) (y : Behind) (held : List (List Frame)) → IsPlan s
    → Counted (length b) (s.blocks * s.length) g h → base ≡ g * (s.blocks * s.length) - s.repeat
    → base + length held ≡ length b → Stands s b base y held → y.packets ≡ length (begun s b)
    → sent s b ≡ begun s b ++ held_packets s y held (left_in s h (length held))
sent_left s b g h base y held plan c is all st number =
    ap (packets s b 0) (left_more s (length b) g h base (length held) (nat_eq s.length 1) refl plan c is all)
    ∙ more_packets s b base y held (begun_portions s (length b)) (left_in s h (length held)) st number
