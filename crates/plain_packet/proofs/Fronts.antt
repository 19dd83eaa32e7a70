-- Bits in the front of octets.
use Rattle.std.proofs.Common.{◌≡◌, ℕ, ◌+◌, ◌*◌, ◌/◌, ◌%◌, ◌^◌, ◌-◌, ◌<◌, ◌≤◌, List, take, ap, nat_eq, arith}
use Rattle.std.proofs.lemmas.List.{get_or-take}
use Rattle.amr_bits.specs.Bits.{bit_at, bits_at}
use Rattle.amr_bits.proofs.Runs.{run-same}

-- a bit of a front
pub front_bit : (octets : List ℕ) (m k : ℕ) → k < 8 * m → bit_at (take m octets) k ≡ bit_at octets k
front_bit octets m k h =
    ap (λ x. nat_eq (x / 2 ^ (7 - k % 8) % 2) 1) (get_or-take m octets (k / 8) 0 (omega (arith, h)))

-- a run of bits in a front
pub front_run : (octets : List ℕ) (m s n : ℕ) → s + n ≤ 8 * m → bits_at (take m octets) s n ≡ bits_at octets s n
front_run octets m s n h =
    run-same (take m octets) octets s s n (λ k l. front_bit octets m (s + k) (omega (arith, h, l)))
