-- A list of bits has exactly one CRC.
use Rattle.std.proofs.Common.{◌≡◌, ℕ, zero, suc, ◌+◌, Bool, true, false, List, [], ◌∷◌, ◌++◌, length, take, drop, replicate, sym, refl, ap, ◌∙◌, arith}
use Rattle.std.proofs.lemmas.List.{length-append, take_at, append_cancel_left}
use Rattle.spec_payload.proofs.Sums.{length-plus, plus_twice, plus_swap, plus-nil, zero-plus, plus_behind, added, length-remainder}
use Rattle.spec_payload.specs.FrameCrc.{differ, plus, generator, times_generator, IsCrc, remainder, crc_of}

-- the front of a sum is the sum of the fronts
take-plus : (n : ℕ) (a b : List Bool) → take n (plus a b) ≡ plus (take n a) (take n b)
take-plus zero a b = refl
take-plus (suc n) [] b = refl
take-plus (suc n) (x ∷ a) [] = refl
take-plus (suc n) (x ∷ a) (y ∷ b) = ap {B = List Bool} (λ t. differ x y ∷ t) (take-plus n a b)

-- the front of a product tells the quotient
one_quotient : (p q : List Bool) → length q ≡ length p → take (length p) (times_generator p) ≡ take (length p) (times_generator q) → p ≡ q
one_quotient [] [] l e = refl
one_quotient [] (y ∷ q) l e = absurd (omega arith)
one_quotient (x ∷ p) [] l e = absurd (omega arith)
one_quotient (true ∷ p) (false ∷ q) l e = absurd cc
one_quotient (false ∷ p) (true ∷ q) l e = absurd cc
one_quotient (false ∷ p) (false ∷ q) l e =
    let t : take (length p) (times_generator p) ≡ take (length p) (times_generator q) = cc in
    ap {B = List Bool} (λ w. false ∷ w) (one_quotient p q (omega arith) t)
one_quotient (true ∷ p) (true ∷ q) l e =
    let n = length p in
    let g = take n (drop 1 generator) in
    let t : take n (plus (times_generator p) (drop 1 generator)) ≡ take n (plus (times_generator q) (drop 1 generator)) = cc in
    let s : plus (take n (times_generator p)) g ≡ plus (take n (times_generator q)) g = sym (take-plus n (times_generator p) (drop 1 generator)) ∙ t ∙ take-plus n (times_generator q) (drop 1 generator) in
    let u : take n (times_generator p) ≡ take n (times_generator q) = sym (plus_twice (take n (times_generator p)) g) ∙ ap (λ w. plus w g) s ∙ plus_twice (take n (times_generator q)) g in
    ap {B = List Bool} (λ w. true ∷ w) (one_quotient p q (omega arith) u)

-- two CRCs of the same bits are equal: their quotients have the same product in front
pub crc_one : (a r s : List Bool) → IsCrc a r → IsCrc a s → r ≡ s
crc_one a r s h k =
    let n = length h.quotient in
    let el : length k.quotient ≡ n = omega (arith, h.as_long, k.as_long) in
    let front : take n (times_generator h.quotient) ≡ take n (times_generator k.quotient) = ap (take n) (sym h.product) ∙ take_at a r n (sym h.as_long) ∙ sym (take_at a s n (sym h.as_long)) ∙ ap (take n) k.product in
    let same = one_quotient h.quotient k.quotient el front in
    append_cancel_left a r s (h.product ∙ ap times_generator same ∙ sym k.product)

-- the quotient that long division finds
abbrev quotient : ℕ → List Bool → List Bool
quotient zero w = []
quotient (suc n) [] = []
quotient (suc n) (b ∷ w) = b ∷ quotient n (plus w (added b))

-- a quotient of n steps has n bits
length-quotient : (n : ℕ) (w : List Bool) → length w ≡ n + 8 → length (quotient n w) ≡ n
length-quotient zero w l = refl
length-quotient (suc n) [] l = absurd (omega arith)
length-quotient (suc n) (b ∷ w) l = ap suc (length-quotient n (plus w (added b)) (omega (arith, length-plus w (added b))))

-- long division is right: product plus remainder is what was divided
divided : (n : ℕ) (w : List Bool) → length w ≡ n + 8 → plus (times_generator (quotient n w)) (replicate n false ++ remainder n w) ≡ w
divided zero w l = zero-plus w 8 (omega arith)
divided (suc n) [] l = absurd (omega arith)
divided (suc n) (false ∷ w) l = ap {B = List Bool} (λ t. false ∷ t) (divided n (plus w []) (omega (arith, length-plus w [])) ∙ plus-nil w)
divided (suc n) (true ∷ w) l =
    let g = drop 1 generator in
    let v = plus w g in
    let p = times_generator (quotient n v) in
    let r = replicate n false ++ remainder n v in
    ap {B = List Bool} (λ t. true ∷ t) (plus_swap p g r ∙ ap (λ t. plus t g) (divided n v (omega (arith, length-plus w g))) ∙ plus_twice w g)

-- what long division leaves of the bits and eight zeros is their CRC
pub crc_is : (a : List Bool) → IsCrc a (crc_of a)
crc_is a =
    let n = length a in
    let w = a ++ replicate 8 false in
    let l : length w ≡ n + 8 = length-append a (replicate 8 false) in
    let r = remainder n w in
    let back = replicate n false ++ r in
    let e : plus w back ≡ times_generator (quotient n w) = ap (λ t. plus t back) (sym (divided n w l)) ∙ plus_twice (times_generator (quotient n w)) back in
    record {
      eight = length-remainder n w l;
      quotient = quotient n w;
      as_long = length-quotient n w l;
      product = ap (λ t. a ++ t) (sym (zero-plus r 8 (length-remainder n w l))) ∙ sym (plus_behind a (replicate 8 false) r) ∙ e;
    }
