-- Interleaving groups (RFC 4867, 4.4.1): a group of n * l blocks goes as l packets of n blocks
-- each, and a packet carries every l-th block of its group. Groups follow one another.
use Rattle.std.specs.Prelude.{ℕ, ◌+◌, ◌*◌, ◌/◌, ◌%◌, ◌<◌}

-- a place in the groups: the group, the packet in it, and the block in the packet, each counted
-- from 0
pub record GroupPlace : Type 0 where
  pub group : ℕ
  pub packet : ℕ
  pub block : ℕ

-- there is such a place in groups of l packets of n blocks
pub record IsGroupPlace (n l : ℕ) (p : GroupPlace) : Type 0 where
  pub packet : p.packet < l
  pub block : p.block < n

-- which of all blocks stands at a place
abbrev pub block_at_place : ℕ → ℕ → GroupPlace → ℕ
block_at_place n l p = p.group * (n * l) + p.packet + p.block * l

-- the place of block m of all blocks
abbrev pub place_of_block : ℕ → ℕ → ℕ → GroupPlace
place_of_block n l m = record {
  group = m / (n * l);
  packet = m % (n * l) % l;
  block = m % (n * l) / l;
}
