-- Lists of bits, the most significant of an octet first (RFC 4867, 4: bits stand in network order).
use Rattle.std.specs.Prelude.{ℕ, zero, suc, ◌+◌, ◌-◌, ◌*◌, ◌/◌, ◌%◌, ◌^◌, ◌<◌, Bool, false, cond, nat_eq, List, [], ◌∷◌, ◌++◌, length, take, drop, map, replicate, slice_index, flat_map, fold}
use Rattle.std.specs.List.{AllByRecursion, range_with_len}

-- numbers that are octets
abbrev pub AreOctets : List ℕ → Type 0
AreOctets octets = AllByRecursion (λ o. o < 256) octets

-- the k bits of the number n, the most significant first
abbrev pub nat : ℕ → ℕ → List Bool
nat zero n = []
nat (suc k) n = nat_eq (n / 2 ^ k % 2) 1 ∷ nat k n

-- the bits of a list of octets, in order
abbrev pub bits_of : List ℕ → List Bool
bits_of octets = flat_map (nat 8) octets

-- the number that the bits spell, the first being the most significant
abbrev pub number : List Bool → ℕ
number bits = fold (λ n b. 2 * n + cond b 1 0) 0 bits

-- bit k of the octets, counted from the most significant bit of the first octet
abbrev pub bit_at : List ℕ → ℕ → Bool
bit_at octets k = nat_eq (slice_index octets (k / 8) / 2 ^ (7 - k % 8) % 2) 1

-- the len bits of the octets from bit start on
abbrev pub bits_at : List ℕ → ℕ → ℕ → List Bool
bits_at octets start len = map (bit_at octets) (range_with_len start len)

-- the number that these bits spell
abbrev pub number_at : List ℕ → ℕ → ℕ → ℕ
number_at octets start len = number (bits_at octets start len)

-- the len elements of a list from place start on
abbrev pub part : {X : Type 0} → ℕ → ℕ → List X → List X
part start len xs = take len (drop start xs)

-- the least number of octets that hold n bits
abbrev pub octets_for : ℕ → ℕ
octets_for n = (n + 7) / 8

-- the octets that have these bits, filled with zero bits up to a whole octet
abbrev pub filled : List Bool → List ℕ
filled bits = map (λ k. number (part (8 * k) 8 (bits ++ replicate 7 false)))
    (range_with_len 0 (octets_for (length bits)))
