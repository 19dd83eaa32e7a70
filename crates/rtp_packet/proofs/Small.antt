-- Lists of which each number is an octet.
use Rattle.std.proofs.Common.{◌≡◌, ℕ, zero, suc, ◌+◌, ◌*◌, ◌/◌, ◌%◌, ◌^◌, ◌<◌, List, [], ◌∷◌, ◌++◌, length, take, drop, replicate, get_or, sym, subst, arith}
use Rattle.std.specs.List.{AllByRecursion, flat_map}
use Rattle.std.proofs.lemmas.List.{get_or-drop, get_or_past}
use Rattle.amr_bits.specs.Bits.{AreOctets}
use Rattle.rtp_packet.specs.Written.{octets_16, octets_32}

-- each is below 256, past the end too
abbrev pub Small : List ℕ → Type 0
Small xs = (i : ℕ) → get_or xs i 0 < 256

pub small_nil : Small []
small_nil i = omega (arith, get_or_past {X = ℕ} [] i 0 (omega arith))

pub small_cons : (x : ℕ) (xs : List ℕ) → x < 256 → Small xs → Small (x ∷ xs)
small_cons x xs h s zero = h
small_cons x xs h s (suc i) = s i

pub small_of : (xs : List ℕ) → AreOctets xs → Small xs
small_of [] a = small_nil
small_of (x ∷ xs) a = small_cons x xs a.0 (small_of xs a.1)

pub small_append : (xs ys : List ℕ) → Small xs → Small ys → Small (xs ++ ys)
small_append [] ys a b = b
small_append (x ∷ xs) ys a b = small_cons x (xs ++ ys) (a zero) (small_append xs ys (λ i. a (suc i)) b)

pub small_drop : (n : ℕ) (xs : List ℕ) → Small xs → Small (drop n xs)
small_drop n xs s i = subst (λ (x : ℕ). x < 256) (sym (get_or-drop n xs i 0)) (s (n + i))

pub small_zeros : (n : ℕ) → Small (replicate n 0)
small_zeros zero = small_nil
small_zeros (suc n) = small_cons 0 (replicate n 0) (omega arith) (small_zeros n)

pub small_16 : (n : ℕ) → Small (octets_16 n)
small_16 n = small_cons (n / 256 % 256) (n % 256 ∷ []) (omega arith) (small_cons (n % 256) [] (omega arith) small_nil)

pub small_32 : (n : ℕ) → Small (octets_32 n)
small_32 n =
    small_cons (n / 16777216 % 256) (n / 65536 % 256 ∷ octets_16 n) (omega arith) (small_cons (n / 65536 % 256) (octets_16 n) (omega arith) (small_16 n))

pub small_sources : (ss : List ℕ) → Small (flat_map octets_32 ss)
small_sources [] = small_nil
small_sources (s ∷ ss) = small_append (octets_32 s) (flat_map octets_32 ss) (small_32 s) (small_sources ss)

-- the octets of numbers by 32 bits each
pub length_sources : (ss : List ℕ) → length (flat_map octets_32 ss) ≡ 4 * length ss
length_sources [] = omega arith
length_sources (s ∷ ss) = omega (arith, length_sources ss)

pub small_take : (n : ℕ) (xs : List ℕ) → Small xs → Small (take n xs)
small_take zero xs s = small_nil
small_take (suc n) [] s = small_nil
small_take (suc n) (x ∷ xs) s = small_cons x (take n xs) (s zero) (small_take n xs (λ i. s (suc i)))

pub are_of : (xs : List ℕ) → Small xs → AreOctets xs
are_of [] s = tt
are_of (x ∷ xs) s = (s zero, are_of xs (λ i. s (suc i)))

pub numbers_of : (xs : List ℕ) → ((i : ℕ) → get_or xs i 0 < 2 ^ 32) → AllByRecursion (λ s. s < 2 ^ 32) xs
numbers_of [] s = tt
numbers_of (x ∷ xs) s = (s zero, numbers_of xs (λ i. s (suc i)))
