-- What is sent for blocks and heard is one segment of a session, of which these blocks are released.
use Rattle.std.proofs.Common.{◌≡◌, Bool, List, length, map, ap, ◌∙◌}
use Rattle.amr_frame.specs.Frames.{Frame}
use Rattle.return_laws.proofs.Heard.{Returns}
use Rattle.return_laws.proofs.Plans.{facts}
use Rattle.return_laws.proofs.Repaired.{repaired}
use Rattle.return_laws.proofs.Returned.{comes_back}
use Rattle.return_laws.specs.Carrying.{CarryAll}
use Rattle.return_laws.specs.Sessions.{AreSent, Hears, Releases}
use Rattle.segment_laws.proofs.Accepting.{one_segment}
use Rattle.segment_laws.proofs.Single.{same_accepted, same_released}
use Rattle.spec_sending.specs.Left.{left}
use Rattle.spec_sending.specs.Sending.{heard_of, sendings}
use Rattle.spec_sending.specs.declared.plan.SendPlan.{SendPlan}
use Rattle.spec_session.specs.Packets.{Packet}
use Rattle.spec_session.specs.Session.{Rules}

-- where all packets are accepted there is one segment
in_one : (rules : Rules) (h : List Packet) (b : List (List Frame)) → Returns rules h b → Releases rules h b
in_one rules h b r =
    let one = one_segment rules h r.whole in
    record {
      all = ap length (same_accepted rules h one) ∙ r.whole;
      one = one;
      blocks = same_released rules h one ∙ r.release;
    }

pub sent_released : (rules : Rules) (s : SendPlan) (b : List (List Frame)) → AreSent s b → Hears rules s
    → Releases rules (map (heard_of s b) (sendings s b)) b
sent_released rules s b are h =
    in_one rules (map (heard_of s b) (sendings s b)) b (comes_back s rules b (facts s are.plan) are.all h are.blocks)

pub left_released : (rules : Rules) (s : SendPlan) (b : List (List Frame)) (kept : List Bool) → AreSent s b
    → s.length ≡ 1 → Hears rules s → CarryAll (length b) (left kept (sendings s b))
    → Releases rules (map (heard_of s b) (left kept (sendings s b))) b
left_released rules s b kept are one h all =
    in_one rules (map (heard_of s b) (left kept (sendings s b))) b
    (repaired s rules b kept (facts s are.plan) one are.all h are.blocks all)
