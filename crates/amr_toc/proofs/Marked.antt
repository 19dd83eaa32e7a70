-- The frames of a payload as they are seen, by place: Q is 0 where the CRC that came isn't the frame's.
use Rattle.std.proofs.Common.{◌≡◌, ℕ, zero, suc, ◌+◌, ◌<◌, Bool, true, false, cond, not, eqb, List, [], ◌∷◌, length, map, take, get_or, sym, refl, ap, ◌∙◌, arith, inl, inr}
use Rattle.std.specs.Prelude.{◌&&◌, ◌⊎◌, filter}
use Rattle.std.specs.List.{AllByRecursion, range_with_len}
use Rattle.amr_frame.specs.declared.codec.Codec.{Codec}
use Rattle.amr_frame.specs.declared.profile.Profile.{Profile}
use Rattle.amr_frame.specs.Frames.{Frame, IsFrame, no_data}
use Rattle.amr_toc.specs.Viewed.{checks_to}
use Rattle.spec_payload.specs.Grammar.{check_of}
use Rattle.spec_payload.specs.Seen.{marked}
use Rattle.spec_payload.specs.Values.{has_bits}

-- the two values of a test
pub either : (b : Bool) → (b ≡ true) ⊎ (b ≡ false)
either true = inl refl
either false = inr refl

-- a frame with this Q
abbrev with_q : Frame → Bool → Frame
with_q f q = record { ft = f.ft; q = q; bits = f.bits }

-- as many frames, whatever comes first
same_long : (b : Bool) (f g : Frame) (n : ℕ) (xs ys : List Frame) → length xs ≡ n → length ys ≡ n → length (cond b (f ∷ xs) (g ∷ ys)) ≡ suc n
same_long true f g n xs ys d e = ap suc d
same_long false f g n xs ys d e = ap suc e

pub length-marked : (p : Profile) (fs : List Frame) (cs : List ℕ) → length (marked p fs cs) ≡ length fs
length-marked p [] cs = refl
length-marked p (f ∷ fs) [] = ap suc (length-marked p fs [])
length-marked p (f ∷ fs) (c ∷ cs) = same_long (has_bits f) (with_q f (f.q && eqb c (check_of p f))) f (length fs) (marked p fs cs) (marked p fs (c ∷ cs)) (length-marked p fs cs) (length-marked p fs (c ∷ cs))

-- frames of the codec, whatever comes first
same_known : (codec : Codec) (b : Bool) (f g : Frame) (xs ys : List Frame) → IsFrame codec f → IsFrame codec g → AllByRecursion (IsFrame codec) xs → AllByRecursion (IsFrame codec) ys → AllByRecursion (IsFrame codec) (cond b (f ∷ xs) (g ∷ ys))
same_known codec true f g xs ys a b d e = (a, d)
same_known codec false f g xs ys a b d e = (b, e)

pub marked_known : (p : Profile) (fs : List Frame) (cs : List ℕ) → AllByRecursion (IsFrame p.codec) fs → AllByRecursion (IsFrame p.codec) (marked p fs cs)
marked_known p [] cs a = tt
marked_known p (f ∷ fs) [] a = (a.0, marked_known p fs [] a.1)
marked_known p (f ∷ fs) (c ∷ cs) a =
    let h = a.0 in
    same_known p.codec (has_bits f) (with_q f (f.q && eqb c (check_of p f))) f (marked p fs cs) (marked p fs (c ∷ cs))
    (record { type = h.type; known = h.known; size = h.size }) h (marked_known p fs cs a.1) (marked_known p fs (c ∷ cs) a.1)

-- whether a frame is damaged by a CRC
abbrev pub differs : Profile → Frame → ℕ → Bool
differs p f c = has_bits f && not (eqb c (check_of p f))

-- the frame that is seen in place of another, where it is damaged or isn't
abbrev pub seen_as : Frame → Bool → Frame
seen_as f damaged = with_q f (f.q && not damaged)

pub keeps_q : (q : Bool) → q ≡ (q && true)
keeps_q true = refl
keeps_q false = refl

-- what is seen of a first frame: with bits, or without
head_with : (p : Profile) (f : Frame) (fs : List Frame) (c : ℕ) (cs : List ℕ) → has_bits f ≡ true → marked p (f ∷ fs) (c ∷ cs) ≡ seen_as f (differs p f c) ∷ marked p fs cs
head_with p f fs c cs e =
    ap (λ b. cond b (with_q f (f.q && eqb c (check_of p f)) ∷ marked p fs cs) (f ∷ marked p fs (c ∷ cs))) e
    ∙ (λ i. with_q f (f.q && twice (eqb c (check_of p f)) i) ∷ marked p fs cs)
    ∙ sym (ap (λ b. seen_as f (b && not (eqb c (check_of p f))) ∷ marked p fs cs) e)
  where
    twice : (b : Bool) → b ≡ not (not b)
    twice true = refl
    twice false = refl

head_without : (p : Profile) (f : Frame) (fs : List Frame) (cs : List ℕ) (c : ℕ) → has_bits f ≡ false → marked p (f ∷ fs) cs ≡ seen_as f (differs p f c) ∷ marked p fs cs
head_without p f fs [] c e = (λ i. with_q f (keeps_q f.q i) ∷ marked p fs []) ∙ sym (ap (λ b. seen_as f (b && not (eqb c (check_of p f))) ∷ marked p fs []) e)
head_without p f fs (d ∷ cs) c e =
    ap (λ b. cond b (with_q f (f.q && eqb d (check_of p f)) ∷ marked p fs cs) (f ∷ marked p fs (d ∷ cs))) e
    ∙ (λ i. with_q f (keeps_q f.q i) ∷ marked p fs (d ∷ cs)) ∙ sym (ap (λ b. seen_as f (b && not (eqb c (check_of p f))) ∷ marked p fs (d ∷ cs)) e)

-- how many CRCs a first frame takes
takes : (f : Frame) (fs : List Frame) → has_bits f ≡ true → length (filter has_bits (f ∷ fs)) ≡ suc (length (filter has_bits fs))
takes f fs e = ap (λ b. length (cond b (f ∷ filter has_bits fs) (filter has_bits fs))) e

takes_none : (f : Frame) (fs : List Frame) → has_bits f ≡ false → length (filter has_bits (f ∷ fs)) ≡ length (filter has_bits fs)
takes_none f fs e = ap (λ b. length (cond b (f ∷ filter has_bits fs) (filter has_bits fs))) e

-- frame k as it is seen, where there are as many CRCs as frames with bits
pub marked_at : (p : Profile) (fs : List Frame) (cs : List ℕ) (k : ℕ) → length cs ≡ length (filter has_bits fs) → k < length fs
    → get_or (marked p fs cs) k no_data ≡ seen_as (get_or fs k no_data) (differs p (get_or fs k no_data) (get_or cs (checks_to fs k) 0))
marked_at p [] cs k l h = absurd (omega arith)
marked_at p (f ∷ fs) cs zero l h = elim (either (has_bits f)) [
  | inl t ↦ first_of cs (l ∙ takes f fs t) t
  | inr t ↦ ap (λ (xs : List Frame). get_or xs 0 no_data) (head_without p f fs cs (get_or cs 0 0) t)
]
  where
    first_of : (cs : List ℕ) → length cs ≡ suc (length (filter has_bits fs)) → has_bits f ≡ true → get_or (marked p (f ∷ fs) cs) 0 no_data ≡ seen_as f (differs p f (get_or cs 0 0))
    first_of [] n t = absurd (omega arith)
    first_of (c ∷ cs) n t = ap (λ (xs : List Frame). get_or xs 0 no_data) (head_with p f fs c cs t)
marked_at p (f ∷ fs) cs (suc k) l h = elim (either (has_bits f)) [
  | inl t ↦ later_of cs (l ∙ takes f fs t) t (λ ds n. marked_at p fs ds k n (omega arith))
  | inr t ↦ ap (λ (xs : List Frame). get_or xs (suc k) no_data) (head_without p f fs cs 0 t)
      ∙ marked_at p fs cs k (l ∙ takes_none f fs t) (omega arith)
      ∙ ap (λ n. seen_as (get_or fs k no_data) (differs p (get_or fs k no_data) (get_or cs n 0))) (sym (takes_none f (take k fs) t))
]
  where
    later_of : (cs : List ℕ) → length cs ≡ suc (length (filter has_bits fs)) → has_bits f ≡ true
        → ((ds : List ℕ) → length ds ≡ length (filter has_bits fs) → get_or (marked p fs ds) k no_data ≡ seen_as (get_or fs k no_data) (differs p (get_or fs k no_data) (get_or ds (checks_to fs k) 0)))
        → get_or (marked p (f ∷ fs) cs) (suc k) no_data ≡ seen_as (get_or fs k no_data) (differs p (get_or fs k no_data) (get_or cs (length (filter has_bits (f ∷ take k fs))) 0))
    later_of [] n t rest = absurd (omega arith)
    later_of (c ∷ cs) n t rest =
        ap (λ (xs : List Frame). get_or xs (suc k) no_data) (head_with p f fs c cs t)
        ∙ rest cs (omega arith)
        ∙ ap (λ n. seen_as (get_or fs k no_data) (differs p (get_or fs k no_data) (get_or (c ∷ cs) n 0))) (sym (takes f (take k fs) t))

-- frames with bits among those of a range, by their types
pub count_with : (q : ℕ → Bool) (g : ℕ → Frame) (fts : List ℕ) (a : ℕ) → ((j : ℕ) → j < length fts → has_bits (g (a + j)) ≡ q (get_or fts j 0))
    → length (filter has_bits (map g (range_with_len a (length fts)))) ≡ length (filter q fts)
count_with q g [] a h = refl
count_with q g (t ∷ fts) a h =
    let here : has_bits (g a) ≡ q t = ap (λ n. has_bits (g n)) (omega arith) ∙ h 0 (omega arith) in
    let rest = count_with q g fts (a + 1) (λ j l. ap (λ n. has_bits (g n)) (omega arith) ∙ h (suc j) (omega arith)) in
    ap (λ b. length (cond b (g a ∷ filter has_bits (map g (range_with_len (a + 1) (length fts)))) (filter has_bits (map g (range_with_len (a + 1) (length fts)))))) here
    ∙ alike (q t) (g a) t (filter has_bits (map g (range_with_len (a + 1) (length fts)))) (filter q fts) rest
  where
    alike : (b : Bool) (f : Frame) (t : ℕ) (xs : List Frame) (ys : List ℕ) → length xs ≡ length ys → length (cond b (f ∷ xs) xs) ≡ length (cond b (t ∷ ys) ys)
    alike true f t xs ys e = ap suc e
    alike false f t xs ys e = e
