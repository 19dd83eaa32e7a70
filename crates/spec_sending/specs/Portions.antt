-- Which blocks each packet carries, by the number of all blocks alone (RFC 4867, 4.4.1 for groups;
-- repeats and the rest behind the last whole group are this project's own).
use Rattle.std.specs.Prelude.{ℕ, ◌+◌, ◌-◌, ◌*◌, ◌/◌, ◌%◌, min, cond, nat_eq, List, ◌++◌, map}
use Rattle.std.specs.List.{range_with_len}
use Rattle.spec_sending.specs.declared.plan.SendPlan.{SendPlan}

-- what a packet carries: `count` blocks, the first of them by its number, each a stride past the
-- one before; and the packet's number in its group
pub record Portion : Type 0 where
  pub first : ℕ
  pub stride : ℕ
  pub index : ℕ
  pub count : ℕ

-- how many packets of n blocks carry m blocks, the last one having n or fewer
abbrev pub pieces : ℕ → ℕ → ℕ
pieces n m = (m + n - 1) / n

-- without groups: packet i of m blocks, with the blocks before it that are sent again
abbrev pub piece_at : SendPlan → ℕ → ℕ → Portion
piece_at s m i = record {
  first = i * s.blocks - s.repeat;
  stride = 1;
  index = 0;
  count = min (i * s.blocks + s.blocks) m - (i * s.blocks - s.repeat);
}

-- with groups: packet i of all whole groups
abbrev pub turn_at : SendPlan → ℕ → Portion
turn_at s i = record {
  first = i / s.length * (s.blocks * s.length) + i % s.length;
  stride = s.length;
  index = i % s.length;
  count = s.blocks;
}

-- the number of blocks in the whole groups of m blocks
abbrev pub grouped : SendPlan → ℕ → ℕ
grouped s m = m / (s.blocks * s.length) * (s.blocks * s.length)

-- packet i of the rest behind the last whole group
abbrev pub rest_at : SendPlan → ℕ → ℕ → Portion
rest_at s m i = record {
  first = grouped s m + i * s.blocks;
  stride = 1;
  index = 0;
  count = min s.blocks (m - (grouped s m + i * s.blocks));
}

-- the packets of the whole groups of m blocks, and those of the rest
abbrev pub turns : SendPlan → ℕ → List Portion
turns s m = map (turn_at s) (range_with_len 0 (m / (s.blocks * s.length) * s.length))

abbrev pub rests : SendPlan → ℕ → List Portion
rests s m = map (rest_at s m) (range_with_len 0 (pieces s.blocks (m - grouped s m)))

-- what the packets of m blocks carry
abbrev pub portions : SendPlan → ℕ → List Portion
portions s m = cond (nat_eq s.length 1)
    (map (piece_at s m) (range_with_len 0 (pieces s.blocks m)))
    (turns s m ++ rests s m)

-- those of them that no further block changes
abbrev pub begun_portions : SendPlan → ℕ → List Portion
begun_portions s m = cond (nat_eq s.length 1)
    (map (piece_at s m) (range_with_len 0 (m / s.blocks)))
    (turns s m)
