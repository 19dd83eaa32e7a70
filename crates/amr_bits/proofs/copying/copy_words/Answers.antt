use Rattle.std.proofs.Common.{◌+◌, ◌*◌, ◌-◌, length, arith}
use Rattle.std.proofs.lemmas.List.FromFn.{fill_by_all}
use Rattle.amr_bits.specs.Bits.{number_at}
use Rattle.amr_bits.proofs.Copied.{block_more}
use Rattle.amr_bits.proofs.copying.copy_words.Goals as goal

pub returns : goal.returns
returns c =
    fill_by_all (λ k. number_at c.args.octets.now (8 * k + c.args.shift) 8) c.copy_word-2.new.out _ 0 (omega arith)
    (λ k l. block_more (λ k. number_at c.args.octets.now (8 * k + c.args.shift) 8) c.copy_word.new.out c.copy_word-2.new.out 8 (length c.args.out.now - 8) 8 (omega arith) (λ k h. c.copy_word.ensures.copied k (omega arith) (omega arith)) c.copy_word-2.ensures.before c.copy_word-2.ensures.copied k (omega arith))
