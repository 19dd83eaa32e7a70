use Rattle.std.proofs.Common.{◌≡◌, ℕ, ◌+◌, ◌-◌, ◌/◌, ◌%◌, ◌++◌, length, take, drop, set, min, arith, sym, ap, ◌∙◌}
use Rattle.std.proofs.lemmas.List.{take_all, length-drop}
use Rattle.amr_bits.specs.Bits.{octets_for, filled}
use Rattle.amr_bits.specs.Runs.{run}
use Rattle.amr_bits.specs.Written.{front}
use Rattle.amr_bits.proofs.Runs.{length-run}
use Rattle.amr_bits.proofs.Joined.{begun_octet, written_even, written_odd}
use Rattle.amr_bits.proofs.writer.write_at.Goals as goal

pub returns-then-begun-eq0 : goal.returns-then-begun-eq0
returns-then-begun-eq0 c =
    let out = c.args.out.now in
    let bits = run c.args.bits in
    let size : length bits ≡ c.args.bits.len = length-run c.args.bits.octets.now c.args.bits.start c.args.bits.len in
    let at = c.args.written / 8 in
    c.write_octets.ensures ∙ ap (λ n. (take at out ++ filled bits) ++ drop (at + octets_for n) out) (sym size)
    ∙ written_even out at c.args.written bits (omega arith) (omega arith) c.are_octets.ensures
    ∙ ap (λ n. filled (front out c.args.written ++ bits) ++ drop (octets_for (c.args.written + n)) out) size

pub returns : goal.returns
returns c =
    let out = c.args.out.now in
    let bits = run c.args.bits in
    let len = c.args.bits.len in
    let size : length bits ≡ len = length-run c.args.bits.octets.now c.args.bits.start len in
    let at = c.args.written / 8 in
    let begun = c.args.written % 8 in
    let count = c.min-count.result in
    let least : count ≡ min (length bits) (8 - begun) = c.min-count.ensures ∙ ap (λ n. min n (8 - begun)) (sym size) in
    let x = begun_octet out at begun count c.number.result in
    let rest : run c.part.result ≡ drop count bits =
    c.part.ensures.bits ∙ take_all (len - count) (drop count bits) (omega (arith, size, length-drop count bits)) in
    c.write_octets-2.ensures ∙ ap (λ (y : ℕ). (take (at + 1) (set out at y) ++ filled (run c.part.result)) ++ drop (at + 1 + octets_for c.part.result.len) (set out at y)) c.joined.ensures
    ∙ ap (λ ys. (take (at + 1) (set out at x) ++ filled ys) ++ drop (at + 1 + octets_for c.part.result.len) (set out at x)) rest
    ∙ ap (λ n. (take (at + 1) (set out at x) ++ filled (drop count bits)) ++ drop (at + 1 + octets_for n) (set out at x)) (c.part.ensures.len ∙ ap (λ n. n - count) (sym size))
    ∙ written_odd out at begun c.args.written bits count c.number.result (omega arith) (omega arith) (omega arith) (omega arith) c.are_octets.ensures least c.number.ensures.bits
    ∙ ap (λ n. filled (front out c.args.written ++ bits) ++ drop (octets_for (c.args.written + n)) out) size
