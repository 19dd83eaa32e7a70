-- The CRC of bits with more behind them.
use Rattle.std.proofs.Common.{◌≡◌, ℕ, zero, suc, ◌+◌, ◌-◌, ◌≤◌, Bool, true, false, List, [], ◌∷◌, ◌++◌, length, take, drop, replicate, sym, refl, ap, ◌∙◌, arith}
use Rattle.std.proofs.lemmas.List.{length-append, append_assoc, replicate-append-replicate, length-replicate, take-append-drop, length-take-le, length-drop}
use Rattle.spec_payload.specs.FrameCrc.{plus, generator, remainder, crc_of}
use Rattle.spec_payload.proofs.Sums.{length-plus, plus_swap, plus-nil, plus-zeros, zero-plus, plus_behind, added, length-crc}
use Rattle.amr_guard.proofs.Sums.{plus_before, plus-append}

-- nothing is left of nothing
remainder-nil : (n : ℕ) → remainder n [] ≡ []
remainder-nil zero = refl
remainder-nil (suc n) = refl

-- first m steps, then n
remainder-more : (m n : ℕ) (w : List Bool) → remainder (m + n) w ≡ remainder n (remainder m w)
remainder-more zero n w = ap (λ k. remainder k w) (omega arith)
remainder-more (suc m) n [] = remainder-nil (suc m + n) ∙ sym (remainder-nil n)
remainder-more (suc m) n (b ∷ w) = let e : suc m + n ≡ suc (m + n) = omega arith in ap (λ k. remainder k (b ∷ w)) e ∙ remainder-more m n (plus w (added b))

-- what is added behind the bits that the steps take is added to the remainder
remainder-plus : (n : ℕ) (w y : List Bool) → remainder n (plus w (replicate n false ++ y)) ≡ plus (remainder n w) y
remainder-plus zero w y = refl
remainder-plus (suc n) [] y = refl
remainder-plus (suc n) (false ∷ w) y = ap (remainder n) (plus_swap w (replicate n false ++ y) []) ∙ remainder-plus n (plus w []) y
remainder-plus (suc n) (true ∷ w) y = ap (remainder n) (plus_swap w (replicate n false ++ y) (drop 1 generator)) ∙ remainder-plus n (plus w (drop 1 generator)) y

-- what stands behind the bits that the steps reach stays
remainder-before : (n : ℕ) (w t : List Bool) → n + 8 ≤ length w → remainder n (w ++ t) ≡ remainder n w ++ t
remainder-before zero w t h = refl
remainder-before (suc n) [] t h = absurd (omega arith)
remainder-before (suc n) (b ∷ w) t h =
    ap (remainder n) (plus_before w t (added b) (short b (omega arith))) ∙ remainder-before n (plus w (added b)) t (omega (arith, length-plus w (added b)))
  where
    short : (b : Bool) {m : ℕ} → 8 ≤ m → length (added b) ≤ m
    short true h = h
    short false h = omega arith

-- leading zeros don't count
pub crc-zeros : (n : ℕ) (a : List Bool) → crc_of (replicate n false ++ a) ≡ crc_of a
crc-zeros zero a = refl
crc-zeros (suc n) a =
    let b = replicate n false ++ a in
    ap (remainder (length b)) (plus-nil (b ++ replicate 8 false)) ∙ crc-zeros n a

-- up to eight bits more
pub crc-append : (a c : List Bool) (j : ℕ) → length c ≡ j → j ≤ 8 → crc_of (a ++ c) ≡ plus (crc_of (plus (take j (crc_of a)) c)) (drop j (crc_of a) ++ replicate j false)
crc-append a c j l h =
    let m = length a in
    let r = crc_of a in
    let eight = replicate 8 false in
    let none = replicate j false in
    let front = take j r in
    let back = drop j r in
    let rest = back ++ none in
    let of_front : length front ≡ j = length-take-le j r (omega (arith, length-crc a)) in
    let of_back : length back ≡ 8 - j = length-drop j r ∙ ap (λ (n : ℕ). n - j) (length-crc a) in
    let of_rest : length rest ≡ 8 = length-append back none ∙ omega (arith, length-replicate j false) in
    let of_more : length (c ++ eight) ≡ 8 + j = length-append c eight ∙ omega arith in
    let spread : a ++ (c ++ eight) ≡ plus ((a ++ eight) ++ none) (replicate m false ++ (c ++ eight)) =
    sym (ap (λ w. plus w (replicate m false ++ (c ++ eight))) (append_assoc a eight none ∙ ap (λ w. a ++ w) (replicate-append-replicate 8 j false))
    ∙ plus_behind a (replicate (8 + j) false) (c ++ eight) ∙ ap (λ w. a ++ w) (zero-plus (c ++ eight) (8 + j) of_more)) in
    let first : remainder m ((a ++ c) ++ eight) ≡ plus (r ++ none) (c ++ eight) =
    ap (remainder m) (append_assoc a c eight ∙ spread) ∙ remainder-plus m ((a ++ eight) ++ none) (c ++ eight)
    ∙ ap (λ w. plus w (c ++ eight)) (remainder-before m (a ++ eight) none (omega (arith, length-append a eight))) in
    let cut : plus (r ++ none) (c ++ eight) ≡ plus front c ++ rest =
    ap (λ w. plus (w ++ none) (c ++ eight)) (sym (take-append-drop j r)) ∙ ap (λ w. plus w (c ++ eight)) (append_assoc front back none)
    ∙ plus-append front c rest eight (omega arith) ∙ ap (λ w. plus front c ++ w) (plus-zeros rest 8) in
    let of_sum : length (plus front c) ≡ j = length-plus front c ∙ of_front in
    let again : plus front c ++ rest ≡ plus (plus front c ++ eight) (replicate j false ++ rest) =
    sym (ap (λ n. plus (plus front c ++ eight) (replicate n false ++ rest)) (sym of_sum) ∙ plus_behind (plus front c) eight rest ∙ ap (λ w. plus front c ++ w) (zero-plus rest 8 of_rest)) in
    ap (λ n. remainder n ((a ++ c) ++ eight)) (length-append a c ∙ ap (λ n. m + n) l) ∙ remainder-more m j ((a ++ c) ++ eight)
    ∙ ap (remainder j) (first ∙ cut ∙ again) ∙ remainder-plus j (plus front c ++ eight) rest
    ∙ ap (λ n. plus (remainder n (plus front c ++ eight)) rest) (sym of_sum)
