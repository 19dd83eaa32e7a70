use Rattle.sdp_lines.proofs.Cuts.{cut_at, uncut}
use Rattle.sdp_lines.proofs.pieces.cut.Goals as goal

pub returns-in-Some-clause-before : goal.returns-in-Some-clause-before
returns-in-Some-clause-before c = (cut_at c.args.at c.args.text.now c.in-Some.place c.in-Some.ensures.0 c.in-Some.ensures.1).before

pub returns-in-Some-clause-after : goal.returns-in-Some-clause-after
returns-in-Some-clause-after c = (cut_at c.args.at c.args.text.now c.in-Some.place c.in-Some.ensures.0 c.in-Some.ensures.1).after

pub returns-in-Some-clause-found : goal.returns-in-Some-clause-found
returns-in-Some-clause-found c = (cut_at c.args.at c.args.text.now c.in-Some.place c.in-Some.ensures.0 c.in-Some.ensures.1).found

pub returns-in-Some-clause-split : goal.returns-in-Some-clause-split
returns-in-Some-clause-split c = (cut_at c.args.at c.args.text.now c.in-Some.place c.in-Some.ensures.0 c.in-Some.ensures.1).split

pub returns-in-None-clause-before : goal.returns-in-None-clause-before
returns-in-None-clause-before c = (uncut c.args.at c.args.text.now c.in-None.ensures).before

pub returns-in-None-clause-nothing : goal.returns-in-None-clause-nothing
returns-in-None-clause-nothing c = (uncut c.args.at c.args.text.now c.in-None.ensures).after

pub returns-in-None-clause-found : goal.returns-in-None-clause-found
returns-in-None-clause-found c = (uncut c.args.at c.args.text.now c.in-None.ensures).found

pub returns-in-None-clause-split : goal.returns-in-None-clause-split
returns-in-None-clause-split c = (uncut c.args.at c.args.text.now c.in-None.ensures).split
