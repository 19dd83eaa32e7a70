-- The octets of a frame that is loaded.
use Rattle.std.proofs.Common.{◌≡◌, ℕ, zero, suc, ◌+◌, ◌-◌, ◌*◌, ◌/◌, ◌%◌, ◌^◌, ◌<◌, ◌≤◌, cond, ltb, List, length, replicate, get_or, set, refl, ap, ◌∙◌, arith, inl, inr}
use Rattle.std.proofs.lemmas.Bool.{cases_lt, le-ltb, lt-ltb}
use Rattle.std.proofs.lemmas.Grind.{get_or-set_at}
use Rattle.std.proofs.lemmas.List.{get_or-set_other, get_or_past, length-set}
use Rattle.amr_bits.proofs.Places.{number_at-lt}
use Rattle.plain_packet.specs.Plain.{octet_in}
use Rattle.plain_packet.proofs.Cutting.{IsCutFrom, cleared}

-- zeros
pub zeros_at : (n k : ℕ) → get_or (replicate n zero) k zero ≡ zero
zeros_at zero k = refl
zeros_at (suc n) zero = refl
zeros_at (suc n) (suc k) = zeros_at n k

-- the octets before the last one, zeros behind them, and then the last one: those of the frame's bits
pub loaded : (payload made : List ℕ) (n v : ℕ) → length made ≡ 60 → 0 < n → n ≤ 477
    → ((k : ℕ) → k < 60 → get_or made k 0 ≡ cond (ltb k ((n - 1) / 8)) (octet_in payload k) 0)
    → v ≡ octet_in payload ((n - 1) / 8) / 2 ^ (7 - (n - 1) % 8) * 2 ^ (7 - (n - 1) % 8) % 256
    → IsCutFrom payload (set made ((n - 1) / 8) v) 10 n ((n - 1) / 8) (7 - (n - 1) % 8)
loaded payload made n v size some most full last =
    let m = (n - 1) / 8 in
    let c = 7 - (n - 1) % 8 in
    let low : m < 60 = omega (arith, most) in
    let few : c < 8 = omega arith in
    let x = octet_in payload m in
    record {
      all = omega (arith, some);
      few = few;
      room = omega (arith, low, size, length-set made m v);
      full = λ k l. get_or-set_other made m k v 0 (λ e. absurd (omega (arith, e, l)))
          ∙ full k (omega (arith, l, low)) ∙ ap (λ b. cond b (octet_in payload k) 0) (lt-ltb k m l);
      last = get_or-set_at made m m v 0 refl (omega (arith, low, size)) ∙ last
          ∙ cleared c x few (number_at-lt payload (8 * m + 10) 8);
      zeros = λ k l. get_or-set_other made m k v 0 (λ e. absurd (omega (arith, e, l)))
          ∙ elim (cases_lt k 60) [
            | inl t ↦ full k t ∙ ap (λ b. cond b (octet_in payload k) 0) (le-ltb k m (omega (arith, l)))
            | inr t ↦ get_or_past made k 0 (omega (arith, t, size))
          ];
    }
