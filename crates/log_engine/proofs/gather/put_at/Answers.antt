use Rattle.std.proofs.Common.{◌+◌, ◌-◌, ◌++◌, length, take, ap, ◌∙◌, arith}
use Rattle.std.proofs.lemmas.Slice.{take-put_mid}
use Rattle.log_engine.proofs.TrayLemmas.{front_behind, put_behind}
use Rattle.log_engine.proofs.gather.put_at.Goals as goal

pub returns-clause-put : goal.returns-clause-put
returns-clause-put c = λ from before.
    let at = c.args.at in
    let octets = c.args.octets.now in
    let is = c.copy_from_slice.ensures.after in
    put_behind c.args.tray.now _ octets from at before (omega arith)
    (take-put_mid at (at + length octets - at) c.args.tray.now c.copy_from_slice.new.self
    (at + length octets) (omega (arith, ap length is)) (omega arith)
    ∙ ap (λ l. take at c.args.tray.now ++ l) is)

pub returns-clause-front : goal.returns-clause-front
returns-clause-front c = λ from count before some.
    let at = c.args.at in
    let octets = c.args.octets.now in
    let is = c.copy_from_slice.ensures.after in
    front_behind c.args.tray.now _ octets from at count before (omega arith) some
    (take-put_mid at (at + length octets - at) c.args.tray.now c.copy_from_slice.new.self
    (at + length octets) (omega (arith, ap length is)) (omega arith)
    ∙ ap (λ l. take at c.args.tray.now ++ l) is)
