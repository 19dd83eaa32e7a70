-- What contracts see of a sender, and what it stands for. This project's own.
use Rattle.std.specs.Prelude.{◌≡◌, ℕ, ◌+◌, ◌-◌, ◌*◌, ◌%◌, ◌<◌, ◌≤◌, Bool, false, List, length, drop, vec_len}
use Rattle.amr_frame.specs.Frames.{Frame}
use Rattle.amr_sender.specs.declared.sender.Sender.TheInside.{Inside}
use Rattle.amr_sender.specs.Held.{IsGroupOf, held_of}
use Rattle.amr_sender.specs.Packets.{block_limit, speech_before}
use Rattle.spec_sending.specs.Plans.{IsPlan}
use Rattle.spec_sending.specs.Portions.{grouped}
use Rattle.spec_sending.specs.Sending.{begun}
use Rattle.spec_sending.specs.declared.plan.SendPlan.{SendPlan}

-- the plan; the blocks held for the next packets; how many blocks came and how many packets were
-- sent; whether the block before those held has speech; and whether the sender was ended or its
-- sink has failed
pub record View : Type 0 where
  pub plan : SendPlan
  pub held : List (List Frame)
  pub blocks : ℕ
  pub packets : ℕ
  pub spoken : Bool
  pub spent : Bool

abbrev pub view_of : Inside → View
view_of s = record {
  plan = s.plan;
  held = held_of s.group;
  blocks = s.blocks;
  packets = s.packets;
  spoken = s.spoken;
  spent = s.spent;
}

-- the number of the first block that is held of m blocks: the first that further packets carry
abbrev pub first_held : SendPlan → ℕ → ℕ
first_held s m = grouped s m - s.repeat

-- what holds of every sender: its rooms are as large as when it was made; where it isn't spent, the
-- blocks held are those that further packets carry, and those behind the last whole group are
-- counted
pub record IsSender (s : Inside) : Type 0 where
  pub plan : IsPlan s.plan
  pub group : IsGroupOf s.plan s.group
  pub octets : vec_len s.room ≡ 23822
  pub cells : vec_len s.cells ≡ s.plan.blocks * s.plan.profile.channels
  pub blocks : s.blocks ≤ block_limit
  pub packets : s.spent ≡ false → s.packets + s.fresh ≤ s.blocks
  pub fresh : s.spent ≡ false → s.fresh ≡ s.blocks % (s.plan.blocks * s.plan.length)
  pub count : s.spent ≡ false → length s.group.blocks ≡ s.blocks - first_held s.plan s.blocks

-- the sender stands for these blocks: it knows their number, the number of packets begun for them,
-- the last blocks, and whether the block before those has speech
pub record StandsFor (v : View) (b : List (List Frame)) : Type 0 where
  pub unspent : v.spent ≡ false
  pub blocks : v.blocks ≡ length b
  pub packets : v.packets ≡ length (begun v.plan b)
  pub held : v.held ≡ drop (first_held v.plan (length b)) b
  pub spoken : v.spoken ≡ speech_before v.plan b (first_held v.plan (length b))

-- it takes a block more: no call failed, and the number of blocks isn't near what it can be
pub record TakesBlock (v : View) : Type 0 where
  pub unspent : v.spent ≡ false
  pub few : v.blocks < block_limit
