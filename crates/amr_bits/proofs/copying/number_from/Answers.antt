use Rattle.std.proofs.Common.{◌≡◌, ℕ, ◌+◌, ◌-◌, ◌*◌, ◌/◌, ◌^◌, ◌<◌, get_or, sym, ap, ◌∙◌, arith, rules}
use Rattle.amr_bits.specs.Bits.{number_at}
use Rattle.amr_bits.proofs.Places.{number_at-lt, number_at-more}
use Rattle.amr_bits.proofs.Copied.{room_above, cut_out}
use Rattle.amr_bits.proofs.copying.number_from.Goals as goal

pub overflow_mul-value : goal.overflow_mul-value
overflow_mul-value c =
    let under : c.loop-at.value < 2 ^ (8 * c.loop-at.at) = rw c.loop-at.invariant (number_at-lt c.args.octets.now 0 (8 * c.loop-at.at)) in
    let bound : c.loop-at.value < 2 ^ 32 = room_above c.loop-at.at c.loop-at.value (omega arith) under in
    omega (arith, bound)

pub overflow_add-value : goal.overflow_add-value
overflow_add-value c =
    let under : c.loop-at.value < 2 ^ (8 * c.loop-at.at) = rw c.loop-at.invariant (number_at-lt c.args.octets.now 0 (8 * c.loop-at.at)) in
    let bound : c.loop-at.value < 2 ^ 32 = room_above c.loop-at.at c.loop-at.value (omega arith) under in
    omega (arith, bound, c.type_inv.octets c.loop-at.at)

pub loop-at-preserved : goal.loop-at-preserved
loop-at-preserved c =
    let at = c.loop-at.at in
    let octets = c.args.octets.now in
    let size : 8 * (at + 1) ≡ 8 * at + 8 = omega arith in
    ap (λ (x : ℕ). 256 * x + get_or octets at 0) c.loop-at.invariant ∙ sym (number_at-more octets 0 (8 * at) at (omega arith) (omega (arith, c.type_inv.octets at))) ∙ ap (number_at octets 0) (sym size)

pub returns : goal.returns
returns c =
    let count = c.octets_needed-count.result in
    let is : count ≡ (c.args.start + c.args.width + 7) / 8 = c.octets_needed-count.ensures in
    let all : c.loop-at.at ≡ count = omega arith in
    let value : c.loop-at.value ≡ number_at c.args.octets.now 0 (8 * count) = c.loop-at.invariant ∙ ap (λ (n : ℕ). number_at c.args.octets.now 0 (8 * n)) all in
    record { spelt = record { bits = cut_out c.args.octets.now c.args.start c.args.width count (8 * count - c.args.start - c.args.width) c.loop-at.value c.requires.width (omega arith) value; below = search rules } }
