-- The CRC of a frame (RFC 4867, 4.4.2.1, names its generator). That it starts at 0, takes the first
-- bit first and isn't changed at the end is this project's own.
-- A list of bits is a polynomial over the two elements, its first bit that of the highest power.
use Rattle.std.specs.Prelude.{◌≡◌, ℕ, zero, suc, Bool, true, false, cond, List, [], ◌∷◌, ◌++◌, length, replicate, drop}

-- the sum of two bits without carry
abbrev pub differ : Bool → Bool → Bool
differ false b = b
differ true false = true
differ true true = false

-- the sum of two polynomials, as long as the first
abbrev pub plus : List Bool → List Bool → List Bool
plus [] b = []
plus (x ∷ a) [] = x ∷ a
plus (x ∷ a) (y ∷ b) = differ x y ∷ plus a b

-- x^8 + x^4 + x^3 + x^2 + 1
abbrev pub generator : List Bool
generator = true ∷ false ∷ false ∷ false ∷ true ∷ true ∷ true ∷ false ∷ true ∷ []

-- the product of a polynomial and the generator, 8 bits longer than the polynomial
abbrev pub times_generator : List Bool → List Bool
times_generator [] = replicate 8 false
times_generator (b ∷ q) = plus (false ∷ times_generator q) (cond b generator [])

-- r is the CRC of the bits a: a followed by r is a multiple of the generator
pub record IsCrc (a r : List Bool) : Type 0 where
  pub eight : length r ≡ 8
  pub quotient : List Bool
  pub as_long : length quotient ≡ length a
  pub product : a ++ r ≡ times_generator quotient

-- what long division leaves after n steps: the first bit goes, and with it the generator where it
-- is 1
abbrev pub remainder : ℕ → List Bool → List Bool
remainder zero w = w
remainder (suc n) [] = []
remainder (suc n) (b ∷ w) = remainder n (plus w (cond b (drop 1 generator) []))

-- the CRC of the bits a, to compute it: the one list r with IsCrc a r
abbrev pub crc_of : List Bool → List Bool
crc_of a = remainder (length a) (a ++ replicate 8 false)
