use Rattle.std.proofs.Common.{◌≡◌, ℕ, ◌+◌, ◌-◌, ◌/◌, ◌%◌, ◌^◌, List, get_or, nat_eq, bit_and, sym, ap, ◌∙◌, arith}
use Rattle.std.proofs.lemmas.Nat.Bits.{shr_and_one}
use Rattle.amr_bits.specs.Bits.{bit_at}
use Rattle.amr_bits.proofs.Runs.{run-get}
use Rattle.amr_bits.proofs.slice.BitSlice.bit.Goals as goal

-- the bit that the shift brings to the end
shifted : (octets : List ℕ) (start at : ℕ) → bit_at octets (start + at) ≡ nat_eq (bit_and (get_or octets (start / 8 + at / 8 + (start % 8 + at % 8) / 8) 0 / 2 ^ (7 - (start % 8 + at % 8) % 8)) 1) 1
shifted octets start at =
    let place : (start + at) / 8 ≡ start / 8 + at / 8 + (start % 8 + at % 8) / 8 = omega arith in
    let inner : (start + at) % 8 ≡ (start % 8 + at % 8) % 8 = omega arith in
    ap (λ (x : ℕ). nat_eq (get_or octets x 0 / 2 ^ (7 - (start + at) % 8) % 2) 1) place
    ∙ ap (λ (x : ℕ). nat_eq (get_or octets (start / 8 + at / 8 + (start % 8 + at % 8) / 8) 0 / 2 ^ (7 - x) % 2) 1) inner
    ∙ ap (λ (x : ℕ). nat_eq x 1) (sym (shr_and_one (get_or octets (start / 8 + at / 8 + (start % 8 + at % 8) / 8) 0) (7 - (start % 8 + at % 8) % 8)))

pub returns-clause-bits : goal.returns-clause-bits
returns-clause-bits c =
    run-get c.args.self.now.octets.now c.args.self.now.start c.args.self.now.len c.args.at c.requires ∙ shifted c.args.self.now.octets.now c.args.self.now.start c.args.at
