-- Runs of whole octets.
use Rattle.std.proofs.Common.{◌≡◌, ℕ, ◌+◌, ◌*◌, ◌≤◌, List, length, take, drop, sym, ap, ◌∙◌, arith}
use Rattle.std.proofs.lemmas.List.{take-append-drop, length-take-le, length-drop}
use Rattle.amr_bits.specs.Bits.{bits_at, bits_of}
use Rattle.amr_bits.proofs.Runs.{run-all, run-append, run-drop}

-- the bits of some octets in a row
pub run_of_octets : (octets : List ℕ) (first count start : ℕ) → start ≡ 8 * first → first + count ≤ length octets
    → bits_of (take count (drop first octets)) ≡ bits_at octets start (8 * count)
run_of_octets octets first count start e h =
    let rest = drop first octets in
    let front = take count rest in
    let size : length front ≡ count = length-take-le count rest (omega (arith, length-drop first octets)) in
    sym (run-all front) ∙ ap (λ k. bits_at front 0 (8 * k)) size ∙ sym (run-append front (drop count rest) (8 * count) (omega (arith, size)))
    ∙ ap (λ w. bits_at w 0 (8 * count)) (take-append-drop count rest) ∙ run-drop octets first 0 start (8 * count) (omega (arith, e))
