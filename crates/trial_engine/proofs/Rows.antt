-- The blocks of a trial, one behind another.
use Rattle.std.proofs.Common.{◌≡◌, ℕ, zero, suc, ◌+◌, ◌*◌, ◌≤◌, ◌<◌, Bool, true, false, cond, eqb, List, [], ◌∷◌, ◌++◌, length, map, take, drop, refl, sym, ap, ◌∙◌, arith, append_assoc, append-nil}
use Rattle.std.proofs.lemmas.List.{drop-append-le, length-append, length-drop, take-append-le, take_all}
use Rattle.std.proofs.lemmas.List.FromFn.{length-map-range_with_len, map-range_with_len_more}
use Rattle.std.proofs.lemmas.Nat.{mul-le}
use Rattle.std.specs.List.{range_with_len}
use Rattle.amr_bits.specs.Bits.{part}
use Rattle.amr_frame.specs.Frames.{Frame, no_data}
use Rattle.amr_frame.specs.declared.codec.Codec.{Codec}
use Rattle.sending_laws.proofs.Portioned.{map_same}
use Rattle.spec_trial.specs.Blocks.{Made, blocks_made, frame_drawn, frame_made, frames_made, made_from, none_made, one_more, sid_type, speech_drawn}
use Rattle.spec_trial.specs.Draws.{drawn, next}
use Rattle.trial_engine.proofs.Making.{made_more}

-- what is made behind frames is what is made from there
pub made_split : (codec : Codec) (m : Made) (a b : ℕ)
    → ((made_from codec m (a + b)).frames ≡ (made_from codec m a).frames ++ (made_from codec (none_made (made_from codec m a).state) b).frames)
    × ((made_from codec m (a + b)).state ≡ (made_from codec (none_made (made_from codec m a).state) b).state)
made_split codec m a zero =
    let none : a + 0 ≡ a = omega arith in (
      ap (λ n. (made_from codec m n).frames) none ∙ sym (append-nil (made_from codec m a).frames),
      ap (λ n. (made_from codec m n).state) none,
    )
made_split codec m a (suc b) =
    let mid = made_from codec m a in
    let from = none_made mid.state in
    let one : a + suc b ≡ a + b + 1 = omega arith in
    let two : suc b ≡ b + 1 = omega arith in
    let so = made_split codec m a b in
    let left : made_from codec m (a + suc b) ≡ one_more codec (made_from codec m (a + b)) (a + b) =
    ap (made_from codec m) one ∙ made_more codec m (a + b) in
    let right : made_from codec from (suc b) ≡ one_more codec (made_from codec from b) b =
    ap (made_from codec from) two ∙ made_more codec from b in (
      ap (λ (k : Made). k.frames) left
          ∙ ap (λ l. l ++ (frame_made codec (made_from codec m (a + b)).state).frames) so.0
          ∙ ap (λ x. mid.frames ++ (made_from codec from b).frames ++ (frame_made codec x).frames) so.1
          ∙ append_assoc mid.frames (made_from codec from b).frames (frame_made codec (made_from codec from b).state).frames
          ∙ ap (λ (k : Made). mid.frames ++ k.frames) (sym right),
      ap (λ (k : Made). k.state) left ∙ ap (λ x. (frame_made codec x).state) so.1 ∙ ap (λ (k : Made). k.state) (sym right),
    )

-- one frame is made at a time
one_of : (a b : Bool) (x y z : Made) → length x.frames ≡ 1 → length y.frames ≡ 1 → length z.frames ≡ 1
    → length (cond a x (cond b y z)).frames ≡ 1
one_of true b x y z p q r = p
one_of false true x y z p q r = q
one_of false false x y z p q r = r

one_frame : (codec : Codec) (x : ℕ) → length (frame_made codec x).frames ≡ 1
one_frame codec x =
    let n = drawn (next x) 16 in
    one_of (eqb n 13) (eqb n 14) (frame_drawn codec (sid_type codec) true (next x))
    (record { frames = no_data ∷ []; state = next x })
    (speech_drawn codec (cond (eqb n 15) false true) (next x)) refl refl refl

pub length_made : (codec : Codec) (x n : ℕ) → length (made_from codec (none_made x) n).frames ≡ n
length_made codec x zero = refl
length_made codec x (suc n) =
    let from = none_made x in
    let one : suc n ≡ n + 1 = omega arith in
    let more : made_from codec from (suc n) ≡ one_more codec (made_from codec from n) n =
    ap (made_from codec from) one ∙ made_more codec from n in
    let a = ap (λ (k : Made). length k.frames) more in
    let b = length-append (made_from codec from n).frames (frame_made codec (made_from codec from n).state).frames in
    let c = one_frame codec (made_from codec from n).state in
    let d = length_made codec x n in
    omega (arith, a, b, c, d)

-- a part of the frames before others
part_before : (f g : List Frame) (i w n : ℕ) → length f ≡ n * w → i < n → part (i * w) w (f ++ g) ≡ part (i * w) w f
part_before f g i w n len lt =
    let row : i * w + w ≤ n * w = row_within i n w lt in
    let within : i * w ≤ length f = omega (arith, len, row) in
    let d = length-drop (i * w) f in
    let rest : w ≤ length (drop (i * w) f) = omega (arith, d, len, row) in
    ap (take w) (drop-append-le (i * w) f g within) ∙ take-append-le w (drop (i * w) f) g rest
  where
    row_within : (i n w : ℕ) → i < n → i * w + w ≤ n * w
    row_within i n w lt = let le = mul-le (i + 1) w n w (omega (arith, lt)) (omega arith) in
        let e : (i + 1) * w ≡ i * w + w = grind arith in omega (arith, le, e)

-- the part behind them
part_behind : (f g : List Frame) (w k : ℕ) → length f ≡ k → length g ≡ w → part k w (f ++ g) ≡ g
part_behind f g w k len size =
    let within : k ≤ length f = omega (arith, len) in
    ap (take w) (drop-append-le k f g within ∙ ap (λ l. l ++ g) (drop_whole k f len))
    ∙ take_all w g (omega (arith, size))
  where
    drop_whole : (k : ℕ) (f : List Frame) → length f ≡ k → drop k f ≡ []
    drop_whole k f len = no_length (drop k f) (let d = length-drop k f in omega (arith, d, len))
      where
        no_length : (xs : List Frame) → length xs ≡ 0 → xs ≡ []
        no_length [] e = refl
        no_length (x ∷ xs) e = absurd (omega (arith, e))

-- how many frames some blocks have, and one more
rows_next : (n w : ℕ) → (n + 1) * w ≡ n * w + w
rows_next n w = grind arith

-- a block more, made where the generator stands behind the others
pub blocks_next : (codec : Codec) (w x n y : ℕ) (block : List Frame)
    → y ≡ (made_from codec (none_made x) (n * w)).state → (made_from codec (none_made y) w).frames ≡ block
    → blocks_made codec w x (n + 1) ≡ blocks_made codec w x n ++ block ∷ []
blocks_next codec w x n y block stands is =
    let from = none_made x in
    let f = frames_made codec x (n * w) in
    let g = (made_from codec (none_made y) w).frames in
    let all : frames_made codec x ((n + 1) * w) ≡ f ++ g =
    ap (frames_made codec x) (rows_next n w) ∙ (made_split codec from (n * w) w).0
    ∙ ap (λ z. f ++ (made_from codec (none_made z) w).frames) (sym stands) in
    let len = length_made codec x (n * w) in
    ap (λ l. map (λ b. part (b * w) w l) (range_with_len 0 (n + 1))) all
    ∙ map-range_with_len_more (λ b. part (b * w) w (f ++ g)) 0 n n (omega arith)
    ∙ ap (λ l. l ++ part (n * w) w (f ++ g) ∷ [])
    (map_same (λ b. part (b * w) w (f ++ g)) (λ b. part (b * w) w f) 0 n
    (λ i lt. part_before f g i w n len (omega (arith, lt))))
    ∙ ap (λ b. map (λ b. part (b * w) w f) (range_with_len 0 n) ++ b ∷ [])
    (part_behind f g w (n * w) len (length_made codec y w) ∙ is)

-- and where it stands then
pub state_next : (codec : Codec) (w x n y z : ℕ) → y ≡ (made_from codec (none_made x) (n * w)).state
    → (made_from codec (none_made y) w).state ≡ z → z ≡ (made_from codec (none_made x) ((n + 1) * w)).state
state_next codec w x n y z stands is =
    sym is ∙ ap (λ k. (made_from codec (none_made k) w).state) stands
    ∙ sym (ap (λ k. (made_from codec (none_made x) k).state) (rows_next n w) ∙ (made_split codec (none_made x) (n * w) w).1)

-- at the start
pub state_first : (codec : Codec) (w x : ℕ) → x ≡ (made_from codec (none_made x) (0 * w)).state
state_first codec w x =
    let none : 0 * w ≡ 0 = omega arith in
    sym (ap (λ k. (made_from codec (none_made x) k).state) none)

-- as many blocks are made as are asked for
pub length_blocks : (codec : Codec) (w x n : ℕ) → length (blocks_made codec w x n) ≡ n
length_blocks codec w x n = length-map-range_with_len (λ b. part (b * w) w (frames_made codec x (n * w))) 0 n
