use Rattle.std.proofs.Common.{◌≡◌, ◌+◌, ◌*◌, ◌++◌, [], take, drop, arith, sym, ap, ◌∙◌}
use Rattle.std.proofs.lemmas.List.{append-nil}
use Rattle.amr_bits.specs.Bits.{octets_for, filled}
use Rattle.amr_bits.specs.Written.{front}
use Rattle.amr_bits.proofs.Runs.{length-run}
use Rattle.amr_bits.proofs.Filled.{filled-front}
use Rattle.amr_bits.proofs.Joined.{front_whole}
use Rattle.amr_bits.proofs.writer.BitWriter.fill_octet.Goals as goal

pub returns-clause-bits : goal.returns-clause-bits
returns-clause-bits c =
    let w = c.args.self.now.written in
    let old = front c.args.out.now w in
    front_whole c.write_at.new.out (drop (octets_for (w + 0)) c.args.out.now) old c.octets_needed.result w (length-run c.args.out.now 0 w) c.octets_needed.ensures (c.write_at.ensures ∙ ap (λ xs. filled xs ++ drop (octets_for (w + 0)) c.args.out.now) (append-nil old))

pub returns-clause-filled : goal.returns-clause-filled
returns-clause-filled c =
    let m = c.octets_needed.result in
    let now = c.write_at.new.out in
    let size : octets_for (8 * m) ≡ m = omega arith in
    ap (λ n. take n now) size ∙ sym (append-nil (take m now)) ∙ sym (filled-front now m [] (omega arith) (λ k. omega (arith, c.type_inv.out k))) ∙ ap filled (append-nil (front now (8 * m)))
