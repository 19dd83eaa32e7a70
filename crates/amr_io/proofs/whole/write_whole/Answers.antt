use Rattle.std.proofs.Common.{ℕ, ◌+◌, arith, length-drop, length-take}
use Rattle.std.proofs.lemmas.Result.{on_err_weaker}
use Rattle.amr_io.proofs.Pieces.{appends_front}
use Rattle.amr_io.proofs.whole.write_whole.Goals as goal

pub returns-then-count-bytes-clause-part : goal.returns-then-count-bytes-clause-part
returns-then-count-bytes-clause-part g c =
    let first = c.in_ok-count.ensures.octets in
    on_err_weaker c.write_rest.result
    (λ part. (c.in_ok-count.count + part.0, omega (arith, length-drop {A = ℕ}, length-take {A = ℕ}, first.1, part.1), appends_front _ _ _ _ _ _ first.2 part.2))
    c.write_rest.ensures.part
