-- Frames that come with their own CRCs are seen as they are, and none is damaged.
use Rattle.std.proofs.Common.{◌≡◌, ℕ, zero, suc, Bool, true, false, cond, not, eqb, List, [], ◌∷◌, length, map, take, get_or, refl, ap, ◌∙◌, inl, inr}
use Rattle.std.specs.Prelude.{◌&&◌, filter}
use Rattle.std.proofs.lemmas.Bool.{eq-eqb}
use Rattle.amr_frame.specs.declared.profile.Profile.{Profile}
use Rattle.amr_frame.specs.Frames.{Frame, no_data}
use Rattle.amr_toc.proofs.Marked.{either}
use Rattle.payload_laws.proofs.Orders.{fails_first}
use Rattle.payload_laws.proofs.Seeing.{marked_none}
use Rattle.spec_payload.specs.Grammar.{check_of, checked}
use Rattle.spec_payload.specs.Seen.{marked}
use Rattle.spec_payload.specs.Values.{has_bits}

-- frames with their own CRCs are seen as they are
and_true : (a b : Bool) → b ≡ true → (a && b) ≡ a
and_true true b e = e
and_true false b e = refl

passed : (p : Profile) (f : Frame) (fs : List Frame) (cs : List ℕ) → has_bits f ≡ false
    → marked p (f ∷ fs) cs ≡ f ∷ marked p fs cs
passed p f fs [] t = refl
passed p f fs (c ∷ cs) t = ap (λ b. cond b (record f { q = f.q && eqb c (check_of p f) } ∷ marked p fs cs) (f ∷ marked p fs (c ∷ cs))) t

own_marked : (p : Profile) (fs : List Frame)
    → marked p fs (map (check_of p) (filter has_bits fs)) ≡ fs
own_marked p [] = refl
own_marked p (f ∷ fs) = by_bits (has_bits f) refl (own_marked p fs)
  where
    by_bits : (b : Bool) → has_bits f ≡ b
        → marked p fs (map (check_of p) (filter has_bits fs)) ≡ fs
        → marked p (f ∷ fs) (map (check_of p) (filter has_bits (f ∷ fs))) ≡ f ∷ fs
    by_bits true t e =
        let c = check_of p f in
        let cs = map (check_of p) (filter has_bits fs) in
        let q : (f.q && eqb c c) ≡ f.q = and_true f.q (eqb c c) (eq-eqb c c refl) in
        ap (λ b. marked p (f ∷ fs) (map (check_of p) (cond b (f ∷ filter has_bits fs) (filter has_bits fs)))) t
        ∙ ap (λ b. cond b (record f { q = f.q && eqb c c } ∷ marked p fs cs) (f ∷ marked p fs (c ∷ cs))) t
        ∙ (λ i. record f { q = q i } ∷ e i)
    by_bits false t e =
        ap (λ b. marked p (f ∷ fs) (map (check_of p) (cond b (f ∷ filter has_bits fs) (filter has_bits fs)))) t
        ∙ passed p f fs (map (check_of p) (filter has_bits fs)) t
        ∙ ap (λ (xs : List Frame). f ∷ xs) e

pub checked_marked : (p : Profile) (fs : List Frame)
    → marked p fs (map (check_of p) (checked p fs)) ≡ fs
checked_marked p fs = elim (either p.crc) [
  | inl t ↦ ap (λ b. marked p fs (map (check_of p) (cond b (filter has_bits fs) []))) t ∙ own_marked p fs
  | inr t ↦ ap (λ b. marked p fs (map (check_of p) (cond b (filter has_bits fs) []))) t ∙ marked_none p fs
]

-- the CRC of frame k is that of its number among the frames with bits
own_check : (p : Profile) (fs : List Frame) (k : ℕ) → has_bits (get_or fs k no_data) ≡ true
    → get_or (map (check_of p) (filter has_bits fs)) (length (filter has_bits (take k fs))) 0 ≡ check_of p (get_or fs k no_data)
own_check p [] k t = absurd cc
own_check p (f ∷ fs) zero t = ap (λ b. get_or (map (check_of p) (cond b (f ∷ filter has_bits fs) (filter has_bits fs))) 0 0) t
own_check p (f ∷ fs) (suc k) t = by_bits (has_bits f) refl (own_check p fs k t)
  where
    by_bits : (b : Bool) → has_bits f ≡ b
        → get_or (map (check_of p) (filter has_bits fs)) (length (filter has_bits (take k fs))) 0 ≡ check_of p (get_or fs k no_data)
        → get_or (map (check_of p) (filter has_bits (f ∷ fs))) (length (filter has_bits (f ∷ take k fs))) 0 ≡ check_of p (get_or fs k no_data)
    by_bits true s e = ap (λ b. get_or (map (check_of p) (cond b (f ∷ filter has_bits fs) (filter has_bits fs))) (length (cond b (f ∷ filter has_bits (take k fs)) (filter has_bits (take k fs)))) 0) s ∙ e
    by_bits false s e = ap (λ b. get_or (map (check_of p) (cond b (f ∷ filter has_bits fs) (filter has_bits fs))) (length (cond b (f ∷ filter has_bits (take k fs)) (filter has_bits (take k fs)))) 0) s ∙ e

-- a frame with its own CRC isn't damaged
pub none_differs : (p : Profile) (fs : List Frame) (k : ℕ)
    → (p.crc && (has_bits (get_or fs k no_data) && not (eqb (get_or (map (check_of p) (checked p fs)) (length (filter has_bits (take k fs))) 0) (check_of p (get_or fs k no_data))))) ≡ false
none_differs p fs k = elim (either p.crc) [
  | inr s ↦ fails_first p.crc _ s
  | inl s ↦ elim (either (has_bits (get_or fs k no_data))) [
    | inr t ↦ inner p.crc (has_bits (get_or fs k no_data)) _ t
    | inl t ↦
        let e = ap (λ b. get_or (map (check_of p) (cond b (filter has_bits fs) [])) (length (filter has_bits (take k fs))) 0) s ∙ own_check p fs k t in
        last p.crc (has_bits (get_or fs k no_data)) _ (eq-eqb (get_or (map (check_of p) (checked p fs)) (length (filter has_bits (take k fs))) 0) (check_of p (get_or fs k no_data)) e)
  ]
]
  where
    inner : (a b c : Bool) → b ≡ false → (a && (b && c)) ≡ false
    inner true b c e = rw e refl
    inner false b c e = refl

    last : (a b c : Bool) → c ≡ true → (a && (b && not c)) ≡ false
    last true true c e = rw e refl
    last true false c e = refl
    last false b c e = refl
