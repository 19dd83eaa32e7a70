-- Where a block stands in groups, as numbers. The groups are those of RFC 4867, 4.4.1.
use Rattle.std.specs.Prelude.{◌≡◌, ℕ}
use Rattle.spec_sending.specs.Groups.{GroupPlace}

-- the group, the packet and the block of a place
pub record IsAt (numbers : ℕ × ℕ × ℕ) (p : GroupPlace) : Type 0 where
  pub group : numbers.0 ≡ p.group
  pub packet : numbers.1 ≡ p.packet
  pub block : numbers.2 ≡ p.block
