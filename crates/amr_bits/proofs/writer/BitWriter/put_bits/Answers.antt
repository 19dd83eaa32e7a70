use Rattle.std.proofs.Common.{◌≡◌, ◌+◌, ◌++◌, length, arith, sym, ap, ◌∙◌}
use Rattle.std.proofs.lemmas.List.{length-append}
use Rattle.amr_bits.specs.Bits.{filled}
use Rattle.amr_bits.specs.Runs.{run}
use Rattle.amr_bits.specs.Written.{front}
use Rattle.amr_bits.proofs.Runs.{length-run}
use Rattle.amr_bits.proofs.Joined.{front_of, octets_of}
use Rattle.amr_bits.proofs.writer.BitWriter.put_bits.Goals as goal

pub returns-clause-bits : goal.returns-clause-bits
returns-clause-bits c =
    let w = c.args.self.now.written in
    let old = front c.args.out.now w in
    let bits = run c.args.bits in
    let size : length (old ++ bits) ≡ w + c.args.bits.len =
    omega (arith, length-append old bits, length-run c.args.out.now 0 w, length-run c.args.bits.octets.now c.args.bits.start c.args.bits.len) in
    front_of c.write_at.new.out _ (old ++ bits) (w + c.args.bits.len) size c.write_at.ensures

pub returns-clause-filled : goal.returns-clause-filled
returns-clause-filled c =
    let w = c.args.self.now.written in
    let old = front c.args.out.now w in
    let bits = run c.args.bits in
    let size : length (old ++ bits) ≡ w + c.args.bits.len =
    omega (arith, length-append old bits, length-run c.args.out.now 0 w, length-run c.args.bits.octets.now c.args.bits.start c.args.bits.len) in
    octets_of c.write_at.new.out _ (old ++ bits) (w + c.args.bits.len) size c.write_at.ensures
    ∙ ap filled (sym (front_of c.write_at.new.out _ (old ++ bits) (w + c.args.bits.len) size c.write_at.ensures))
