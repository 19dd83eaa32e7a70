use Rattle.std.proofs.Common.{◌+◌}
use Rattle.std.proofs.lemmas.Result.{on_err_weaker, on_ok_weaker}
use Rattle.amr_io.proofs.Pieces.{appends_all, appends_more, headed_part, rest_of_headed}
use Rattle.amr_io.proofs.whole.write_whole_headed.Goals as goal

pub returns-then-done-count-clause-whole : goal.returns-then-done-count-clause-whole
returns-then-done-count-clause-whole g c =
    let first = c.in_ok-done.ensures.octets in
    let rest = rest_of_headed c.args.head c.args.body.now c.args.count c.in_ok-done.done first.0 c.if-done-count.true in
    on_ok_weaker c.write_rest.result (λ whole. appends_all _ _ _ _ _ c.in_ok-done.done rest first.2 whole)
    c.write_rest.ensures.whole

pub returns-then-done-count-clause-part : goal.returns-then-done-count-clause-part
returns-then-done-count-clause-part g c =
    let first = c.in_ok-done.ensures.octets in
    let rest = rest_of_headed c.args.head c.args.body.now c.args.count c.in_ok-done.done first.0 c.if-done-count.true in
    on_err_weaker c.write_rest.result (λ part. (
      c.in_ok-done.done + part.0,
      headed_part _ _ _ _ rest first.1 part.1,
      appends_more _ _ _ _ _ c.in_ok-done.done part.0 rest first.2 part.2,
    ))
    c.write_rest.ensures.part
