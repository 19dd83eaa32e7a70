use Rattle.amr_toc.proofs.InView.{in_listed}
use Rattle.amr_toc.proofs.view.PayloadView.run_of.Goals as goal

pub start_of-requires : goal.start_of-requires
start_of-requires c = in_listed c.args.self.now c.args.at c.requires.frame
