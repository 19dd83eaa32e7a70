-- Numbers of a header that stand in whole octets, or in a part of one.
use Rattle.std.proofs.Common.{◌≡◌, ℕ, ◌+◌, ◌*◌, ◌/◌, ◌%◌, ◌<◌, List, get_or, nat_eq, ap, ◌∙◌, arith}
use Rattle.amr_bits.specs.Bits.{bit_at, number_at}
use Rattle.amr_bits.proofs.Places.{number_at-within, number_at-octet, number_at-more}

-- the last four bits of the first octet
pub low_four : (octets : List ℕ) → get_or octets 0 0 < 256 → number_at octets 4 4 ≡ get_or octets 0 0 % 16
low_four octets small =
    number_at-within octets 0 8 4 4 0 (omega arith) ∙ ap (λ (x : ℕ). x / 1 % 16) (number_at-octet octets 0 small) ∙ omega arith

-- the last seven bits of the second octet
pub low_seven : (octets : List ℕ) → get_or octets 1 0 < 256 → number_at octets 9 7 ≡ get_or octets 1 0 % 128
low_seven octets small =
    number_at-within octets 8 8 1 7 0 (omega arith) ∙ ap (λ (x : ℕ). x / 1 % 128) (number_at-octet octets 1 small) ∙ omega arith

-- the first bit of the second octet
pub top_bit : (octets : List ℕ) → get_or octets 1 0 < 256 → nat_eq (get_or octets 1 0 / 128) 1 ≡ bit_at octets 8
top_bit octets small = ap (λ (x : ℕ). nat_eq x 1) (omega arith)

-- two octets
pub two_octets : (octets : List ℕ) (k : ℕ) → get_or octets k 0 < 256 → get_or octets (k + 1) 0 < 256 → number_at octets (8 * k) 16 ≡ 256 * get_or octets k 0 + get_or octets (k + 1) 0
two_octets octets k one two =
    number_at-more octets (8 * k) 8 (k + 1) (omega arith) two ∙ ap (λ (x : ℕ). 256 * x + get_or octets (k + 1) 0) (number_at-octet octets k one)

-- four octets
pub four_octets : (octets : List ℕ) (k : ℕ) → ((i : ℕ) → get_or octets i 0 < 256) → number_at octets (8 * k) 32 ≡ 65536 * (256 * get_or octets k 0 + get_or octets (k + 1) 0) + (256 * get_or octets (k + 2) 0 + get_or octets (k + 3) 0)
four_octets octets k small =
    number_at-more octets (8 * k) 24 (k + 3) (omega arith) (small (k + 3))
    ∙ ap (λ (x : ℕ). 256 * x + get_or octets (k + 3) 0) (number_at-more octets (8 * k) 16 (k + 2) (omega arith) (small (k + 2)))
    ∙ ap (λ (x : ℕ). 256 * (256 * x + get_or octets (k + 2) 0) + get_or octets (k + 3) 0) (two_octets octets k (small k) (small (k + 1)))
    ∙ omega arith
