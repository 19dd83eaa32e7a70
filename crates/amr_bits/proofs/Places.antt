-- Numbers that stand inside octets.
use Rattle.std.proofs.Common.{◌≡◌, ℕ, zero, suc, ◌+◌, ◌-◌, ◌*◌, ◌/◌, ◌%◌, ◌^◌, ◌<◌, ◌≤◌, List, ◌++◌, length, get_or, bit_or, sym, refl, ap, ◌∙◌, arith, ◌∷◌, []}
use Rattle.std.proofs.Math.Nat.{mod-eq_of_lt}
use Rattle.std.proofs.lemmas.Nat.{or_shifted}
use Rattle.amr_bits.specs.Bits.{number, bits_at, number_at, nat}
use Rattle.amr_bits.proofs.Numbers.{number-middle, number-append, number-nat, number-lt, length-nat, same_bits}
use Rattle.amr_bits.proofs.Runs.{run-split, run-octet, length-run}

-- a number inside a longer one, with c bits behind it
pub number_at-within : (octets : List ℕ) (t n i m c : ℕ) → n ≡ i + (m + c) → number_at octets (t + i) m ≡ number_at octets t n / 2 ^ c % 2 ^ m
number_at-within octets t n i m c e =
    let a = bits_at octets t i in
    let b = bits_at octets (t + i) m in
    let d = bits_at octets (t + i + m) c in
    let all : bits_at octets t n ≡ a ++ (b ++ d) = ap (bits_at octets t) e ∙ run-split octets t i (m + c) (t + i) refl ∙ ap (λ xs. a ++ xs) (run-split octets (t + i) m c (t + i + m) refl) in
    sym (ap (λ xs. number xs / 2 ^ c % 2 ^ m) all ∙ ap (λ (x : ℕ). number (a ++ (b ++ d)) / 2 ^ x % 2 ^ m) (sym (length-run octets (t + i + m) c))
    ∙ ap (λ (x : ℕ). number (a ++ (b ++ d)) / 2 ^ length d % 2 ^ x) (sym (length-run octets (t + i) m)) ∙ number-middle a b d)

pub number_at-octet : (octets : List ℕ) (k : ℕ) → get_or octets k 0 < 256 → number_at octets (8 * k) 8 ≡ get_or octets k 0
number_at-octet octets k small = ap number (run-octet octets k) ∙ number-nat 8 (get_or octets k 0) ∙ mod-eq_of_lt small

-- an octet more
pub number_at-more : (octets : List ℕ) (t n k : ℕ) → t + n ≡ 8 * k → get_or octets k 0 < 256 → number_at octets t (n + 8) ≡ 256 * number_at octets t n + get_or octets k 0
number_at-more octets t n k e small =
    ap number (run-split octets t n 8 (8 * k) (sym e)) ∙ number-append (bits_at octets t n) (bits_at octets (8 * k) 8)
    ∙ ap (λ (x : ℕ). number_at octets t n * 256 + x) (number_at-octet octets k small) ∙ omega arith

pub number_at-lt : (octets : List ℕ) (t n : ℕ) → number_at octets t n < 2 ^ n
number_at-lt octets t n = rw (ap (λ (x : ℕ). 2 ^ x) (sym (length-run octets t n))) (number-lt (bits_at octets t n))

-- eight bits across two octets
pub number_at-across : (octets : List ℕ) (k s : ℕ) → s ≤ 8 → get_or octets k 0 < 256 → get_or octets (k + 1) 0 < 256 → number_at octets (8 * k + s) 8 ≡ (256 * get_or octets k 0 + get_or octets (k + 1) 0) / 2 ^ (8 - s) % 256
number_at-across octets k s h one two =
    number_at-within octets (8 * k) 16 s 8 (8 - s) (omega arith)
    ∙ ap (λ (x : ℕ). x / 2 ^ (8 - s) % 256) (number_at-more octets (8 * k) 8 (k + 1) (omega arith) two ∙ ap (λ (x : ℕ). 256 * x + get_or octets (k + 1) 0) (number_at-octet octets k one))

-- the two shifts that bring them together
pub shifts_join : (s a b : ℕ) → 0 < s → s < 8 → a < 256 → b < 256 → bit_or (a * 2 ^ s % 256) (b / 2 ^ (8 - s)) ≡ (256 * a + b) / 2 ^ (8 - s) % 256
shifts_join zero a b l h small under = absurd (omega arith)
shifts_join (suc zero) a b l h small under = ap (λ (x : ℕ). bit_or x (b / 128)) (omega arith) ∙ or_shifted (a % 128) 1 (b / 128) (omega arith) ∙ omega arith
shifts_join (suc (suc zero)) a b l h small under = ap (λ (x : ℕ). bit_or x (b / 64)) (omega arith) ∙ or_shifted (a % 64) 2 (b / 64) (omega arith) ∙ omega arith
shifts_join (suc (suc (suc zero))) a b l h small under = ap (λ (x : ℕ). bit_or x (b / 32)) (omega arith) ∙ or_shifted (a % 32) 3 (b / 32) (omega arith) ∙ omega arith
shifts_join (suc (suc (suc (suc zero)))) a b l h small under = ap (λ (x : ℕ). bit_or x (b / 16)) (omega arith) ∙ or_shifted (a % 16) 4 (b / 16) (omega arith) ∙ omega arith
shifts_join (suc (suc (suc (suc (suc zero))))) a b l h small under = ap (λ (x : ℕ). bit_or x (b / 8)) (omega arith) ∙ or_shifted (a % 8) 5 (b / 8) (omega arith) ∙ omega arith
shifts_join (suc (suc (suc (suc (suc (suc zero)))))) a b l h small under = ap (λ (x : ℕ). bit_or x (b / 4)) (omega arith) ∙ or_shifted (a % 4) 6 (b / 4) (omega arith) ∙ omega arith
shifts_join (suc (suc (suc (suc (suc (suc (suc zero))))))) a b l h small under = ap (λ (x : ℕ). bit_or x (b / 2)) (omega arith) ∙ or_shifted (a % 2) 7 (b / 2) (omega arith) ∙ omega arith
shifts_join (suc (suc (suc (suc (suc (suc (suc (suc n)))))))) a b l h small under = absurd (omega arith)

-- the octets of a number below 2 ^ 32, the most significant first
abbrev pub four : ℕ → List ℕ
four v = v / 16777216 % 256 ∷ v / 65536 % 256 ∷ v / 256 % 256 ∷ v % 256 ∷ []

sums : (v a b c d : ℕ) → v < 2 ^ 32 → a ≡ v / 16777216 % 256 → b ≡ 256 * a + v / 65536 % 256 → c ≡ 256 * b + v / 256 % 256 → d ≡ 256 * c + v % 256 → d ≡ v
sums v a b c d h one two three all = omega (arith, one, two, three, all)

number_at-four : (v : ℕ) → v < 2 ^ 32 → number_at (four v) 0 32 ≡ v
number_at-four v h =
    let one : number_at (four v) 0 8 ≡ v / 16777216 % 256 = number_at-octet (four v) 0 (omega arith) in
    let two : number_at (four v) 0 16 ≡ 256 * number_at (four v) 0 8 + v / 65536 % 256 = number_at-more (four v) 0 8 1 refl (omega arith) in
    let three : number_at (four v) 0 24 ≡ 256 * number_at (four v) 0 16 + v / 256 % 256 = number_at-more (four v) 0 16 2 refl (omega arith) in
    let all : number_at (four v) 0 32 ≡ 256 * number_at (four v) 0 24 + v % 256 = number_at-more (four v) 0 24 3 refl (omega arith) in
    sums v (number_at (four v) 0 8) (number_at (four v) 0 16) (number_at (four v) 0 24) (number_at (four v) 0 32) h one two three all

-- the last bits of these octets
pub bits-four : (v width : ℕ) → v < 2 ^ 32 → v < 2 ^ width → width ≤ 32 → bits_at (four v) (32 - width) width ≡ nat width v
bits-four v width h small fits =
    let value : number_at (four v) (32 - width) width ≡ v % 2 ^ width =
    ap (λ t. number_at (four v) t width) (omega arith) ∙ number_at-within (four v) 0 32 (32 - width) width 0 (omega arith)
    ∙ ap (λ (x : ℕ). x / 1 % 2 ^ width) (number_at-four v h) ∙ ap (λ (x : ℕ). x % 2 ^ width) (omega arith) in
    same_bits (bits_at (four v) (32 - width) width) (nat width v) (length-run (four v) (32 - width) width ∙ sym (length-nat width v)) (value ∙ sym (number-nat width v))
