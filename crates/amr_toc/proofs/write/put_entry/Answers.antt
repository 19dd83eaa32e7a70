use Rattle.std.proofs.Common.{◌++◌, ap, ◌∙◌}
use Rattle.amr_bits.specs.Written.{front}
use Rattle.amr_toc.proofs.EntryBits.{entry_is}
use Rattle.amr_toc.proofs.write.put_entry.Goals as goal

pub returns-clause-text : goal.returns-clause-text
returns-clause-text c =
    let spelled = entry_is c.args.entry c.args.more c.args.width c.requires.entry.type_exists c.requires.entry.wide in
    record {
      bits = c.put.ensures.bits ∙ ap (λ xs. front c.args.out.now c.args.at.now.written ++ xs) spelled;
      zeros = c.put.ensures.filled;
      later = c.put.ensures.later;
    }
