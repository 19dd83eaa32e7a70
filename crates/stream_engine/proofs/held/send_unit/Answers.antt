use Rattle.std.proofs.Common.{◌≡◌, ◌∷◌, [], ◌++◌, length, take, ap, ◌∙◌, arith}
use Rattle.std.proofs.lemmas.List.{length-take-le}
use Rattle.stream_engine.proofs.Units.{unit_sent}
use Rattle.stream_engine.proofs.held.send_unit.Goals as goal

pub returns-clause-sends : goal.returns-clause-sends
returns-clause-sends c = λ own more joins whole.
    let made = c.make_packet-size.ensures in
    let size = c.make_packet-size.result in
    let octets = c.make_packet-size.new.out in
    let most = made.most in
    let long : length (take size octets) ≡ size = length-take-le size octets (omega (arith, most, c.make_packet-size.array_long)) in
    unit_sent c.args.sender.now c.make_packet-size.new.self _ _ octets size c.log_head.result
    c.args.gather.now.waiting c.push_front.new.self.waiting made.made
    (ap (λ f. f ∷ []) (made.own own more joins whole)) (c.log_head.ensures (take size octets) long)
    (ap (λ t. t.waiting) c.push_front.ensures ∙ ap (λ t. t.waiting ++ take size octets) c.push.ensures)
