-- How many blocks are released of a log: fewer than a sender takes.
use Rattle.std.proofs.Common.{ℕ, ◌<◌, ◌≤◌, ◌+◌, ◌*◌, ◌^◌, List, length, ap, ◌∙◌, subst, arith}
use Rattle.amr_playout.proofs.Plans.{facts}
use Rattle.amr_playout.specs.Plans.{rules_in}
use Rattle.amr_playout.specs.declared.plan.Plan.{Plan}
use Rattle.amr_sender.specs.Packets.{block_limit}
use Rattle.record_hearing.specs.Going.{IsGoing}
use Rattle.record_hearing.specs.Hearing.{among}
use Rattle.record_hearing.specs.Listening.{HasHeard, gone_among, released_among}
use Rattle.record_hearing.specs.declared.listener.Listener.{Listener}
use Rattle.spec_segments.specs.Release.{gone_out}

-- 2^40 records release at most 45,000 blocks each
most : (n blocks : ℕ) → n ≤ 2 ^ 40 → blocks ≤ n * 45000 → blocks + 4096 < block_limit
most n blocks few bound = omega (arith, few, bound)

pub few_gone : (l : Listener) (records : List (List ℕ)) → IsGoing l.receiver l.tally → HasHeard l records
    → length (gone_among l.job records) < block_limit
few_gone l records going heard =
    let counted = heard.heard.counted.blocks
    ∙ ap (λ (p : Plan). length (gone_out (rules_in p) (among l.job records))) l.served.plan in
    let room = most l.tally.packets l.receiver.counts.blocks going.few going.bounded.blocks in
    subst (λ n. n < block_limit) counted (omega (arith, room))

pub few_released : (l : Listener) (records : List (List ℕ)) → IsGoing l.receiver l.tally
    → length (released_among l.job records) ≤ l.receiver.counts.blocks + l.job.plan.window
    → length (released_among l.job records) < block_limit
few_released l records going released =
    let narrow = (facts l.job.plan l.served.served.plan).narrow in
    let room = most l.tally.packets l.receiver.counts.blocks going.few going.bounded.blocks in
    below (length (released_among l.job records)) l.receiver.counts.blocks l.job.plan.window released narrow room
  where
    below : (n blocks window : ℕ) → n ≤ blocks + window → window ≤ 4096 → blocks + 4096 < block_limit
        → n < block_limit
    below n blocks window released narrow room = omega (arith, released, narrow, room)
