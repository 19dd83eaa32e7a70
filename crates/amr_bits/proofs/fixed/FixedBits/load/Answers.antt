use Rattle.std.proofs.Common.{◌≡◌, ◌+◌, ◌/◌, length, replicate, arith, rules, sym, ap, ◌∙◌, drop}
use Rattle.amr_bits.specs.Bits.{bits_at}
use Rattle.amr_bits.specs.Runs.{run}
use Rattle.amr_bits.proofs.Runs.{run-append, length-run}
use Rattle.amr_bits.proofs.Filled.{bits-filled, length-filled}
use Rattle.amr_bits.proofs.Copied.{kept_clear}
use Rattle.amr_bits.proofs.fixed.FixedBits.load.Goals as goal

pub invariant_of-result : goal.invariant_of-result
invariant_of-result g c = record {
  within = search rules;
  clear = λ k past. kept_clear (run c.args.bits) c.copy_to.new.out c.octets_needed.result g.row.N k c.copy_to.ensures (omega (arith, length-run c.args.bits.octets.now c.args.bits.start c.args.bits.len));
}

pub returns-clause-bits : goal.returns-clause-bits
returns-clause-bits g c =
    let bits = run c.args.bits in
    let n = c.args.bits.len in
    let size : length bits ≡ n = length-run c.args.bits.octets.now c.args.bits.start n in
    let made = c.copy_to.new.out in
    let whole : length made ≡ (length bits + 7) / 8 = ap length c.copy_to.ensures ∙ length-filled bits in
    run-append made (drop c.octets_needed.result (replicate g.row.N 0)) n (omega arith)
    ∙ ap (λ xs. bits_at xs 0 n) c.copy_to.ensures ∙ ap (bits_at _ 0) (sym size) ∙ bits-filled bits
