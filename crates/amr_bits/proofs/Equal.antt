-- Octets that are known from their bits.
use Rattle.std.proofs.Common.{◌≡◌, ℕ, ◌+◌, ◌*◌, ◌<◌, ◌≤◌, false, List, length, take, get_or, sym, ap, ◌∙◌, arith, inl, inr}
use Rattle.std.proofs.lemmas.Bool.{cases_lt}
use Rattle.std.proofs.lemmas.List.{ext_get_or, get_or-take, length-take-le}
use mathlib.Core.HLevel.{is_prop→PathP}
use Rattle.std.specs.Coded.{le_prop}
use Rattle.std.proofs.Math.Bool.{Bool-set}
use Rattle.amr_bits.specs.declared.fixed.FixedBits.{FixedBits, within-type}
use Rattle.amr_bits.specs.Bits.{number, bit_at, bits_at, filled, octets_for}
use Rattle.amr_bits.proofs.Runs.{run-same, run-get, length-run}
use Rattle.amr_bits.proofs.Filled.{bits-filled, filled-past, filled-lt, length-filled}
use Rattle.amr_bits.proofs.Places.{number_at-octet}

-- octets with the same bits are the same
pub same_octets : (a b : List ℕ) → length a ≡ length b → ((k : ℕ) → get_or a k 0 < 256) → ((k : ℕ) → get_or b k 0 < 256) → ((k : ℕ) → bit_at a k ≡ bit_at b k) → a ≡ b
same_octets a b l small below h =
    ext_get_or 0 a b l (λ i q. sym (number_at-octet a i (small i)) ∙ ap number (run-same a b (8 * i) (8 * i) 8 (λ k r. h (8 * i + k))) ∙ number_at-octet b i (below i))

-- bits that are the same in front, and 0 behind
pub same_everywhere : (a b : List ℕ) (n : ℕ) → bits_at a 0 n ≡ bits_at b 0 n → ((k : ℕ) → n ≤ k → bit_at a k ≡ false) → ((k : ℕ) → n ≤ k → bit_at b k ≡ false) → (k : ℕ) → bit_at a k ≡ bit_at b k
same_everywhere a b n e past behind k =
    elim (cases_lt k n) [
      | inl within ↦
          ap (bit_at a) (omega arith) ∙ sym (run-get a 0 n k within) ∙ ap (λ xs. get_or xs k false) e ∙ run-get b 0 n k within ∙ ap (bit_at b) (omega arith)
      | inr beyond ↦ past k beyond ∙ sym (behind k beyond)
    ]

-- values with the same octets and length are the same
pub same_value : {N : ℕ} (a b : FixedBits N) → a.octets ≡ b.octets → a.len ≡ b.len → a ≡ b
same_value {N} a b p q = λ i. record {
  octets = p i;
  len = q i;
  within = is_prop→PathP (λ j. within-type N (p j) (q j)) (λ j. hlevel le_prop) a.within b.within i;
  clear = is_prop→PathP (λ j. (k : ℕ) → q j ≤ k → bit_at (p j) k ≡ false) (λ j. hlevel (Bool-set, le_prop)) a.clear b.clear i;
}

-- octets that hold so many bits, and zeros behind, begin with the octets that the bits fill
pub octet_is : (octets : List ℕ) (n k : ℕ) → ((i : ℕ) → get_or octets i 0 < 256) → ((i : ℕ) → n ≤ i → bit_at octets i ≡ false) → get_or octets k 0 ≡ get_or (filled (bits_at octets 0 n)) k 0
octet_is octets n k small clear =
    let bits = bits_at octets 0 n in
    let size : length bits ≡ n = length-run octets 0 n in
    let front : bits_at octets 0 n ≡ bits_at (filled bits) 0 n = sym (bits-filled bits) ∙ ap (bits_at (filled bits) 0) size in
    let same : (i : ℕ) → bit_at octets i ≡ bit_at (filled bits) i = same_everywhere octets (filled bits) n front clear (λ i h. filled-past bits i (omega (arith, h, size))) in
    sym (number_at-octet octets k (small k)) ∙ ap number (run-same octets (filled bits) (8 * k) (8 * k) 8 (λ i h. same (8 * k + i))) ∙ number_at-octet (filled bits) k (filled-lt bits k)

-- octets that hold so many bits, and zeros behind, are in front the octets that the bits fill
pub front_filled : (octets : List ℕ) (n m : ℕ) → m ≤ length octets → m ≡ octets_for n → ((i : ℕ) → get_or octets i 0 < 256) → ((i : ℕ) → n ≤ i → bit_at octets i ≡ false) → take m octets ≡ filled (bits_at octets 0 n)
front_filled octets n m fits is small clear =
    let size : length (filled (bits_at octets 0 n)) ≡ m = length-filled (bits_at octets 0 n) ∙ ap octets_for (length-run octets 0 n) ∙ sym is in
    let front : length (take m octets) ≡ m = length-take-le m octets fits in
    ext_get_or 0 (take m octets) (filled (bits_at octets 0 n)) (front ∙ sym size) (λ i h. get_or-take m octets i 0 (omega (arith, front)) ∙ octet_is octets n i small clear)
