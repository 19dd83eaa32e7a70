use Rattle.std.proofs.Common.{sym}
use Rattle.amr_toc.proofs.Sizes.{listed_count}
use Rattle.amr_toc.proofs.entry.Toc.len.Goals as goal

pub returns-clause-entries : goal.returns-clause-entries
returns-clause-entries c = sym (listed_count c.args.self.now)
