use Rattle.std.proofs.Common.{sym, ◌∙◌}
use Rattle.amr_bits.proofs.Runs.{length-run}
use Rattle.amr_oa.proofs.write.put_check.Goals as goal

pub check_over-requires-clause-size : goal.check_over-requires-clause-size
check_over-requires-clause-size c = c.as_bits.ensures.len ∙ sym (length-run c.args.cell.now.bits.octets 0 c.args.cell.now.bits.len) ∙ c.requires.frame.size
