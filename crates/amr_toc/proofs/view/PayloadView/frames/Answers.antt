use Rattle.std.proofs.Common.{length, ap, sym, ◌∙◌}
use Rattle.amr_toc.specs.Lists.{listed}
use Rattle.amr_toc.proofs.Shown.{count_is, said_count}
use Rattle.amr_toc.proofs.Valued.{viewed_value}
use Rattle.amr_toc.proofs.view.PayloadView.frames.Goals as goal

pub returns-clause-frames : goal.returns-clause-frames
returns-clause-frames c = let v = c.args.self.now in c.len.ensures.entries ∙ sym (count_is v.profile v.octets.now (listed v.toc) v.table)

pub returns-clause-said : goal.returns-clause-said
returns-clause-said c = let v = c.args.self.now in c.len.ensures.entries ∙ ap length v.table ∙ sym (said_count v.profile v.octets.now)

pub returns-clause-value : goal.returns-clause-value
returns-clause-value c = let v = c.args.self.now in viewed_value v.profile v.octets.now v.valid v.accepted

pub returns-clause-some : goal.returns-clause-some
returns-clause-some c = c.len.ensures.few.0

pub returns-clause-most : goal.returns-clause-most
returns-clause-most c = c.len.ensures.few.1
