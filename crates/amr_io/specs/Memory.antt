-- What a source and a sink over memory stand for. They are ours, for tests and trials.
use Rattle.std.specs.Prelude.{ℕ, List}

-- the octets left, how many a read gives at most, the numbers of the calls that fail,
-- how many calls were made, and how many of them failed
pub record MemorySourceState : Type 0 where
  pub octets : List ℕ
  pub cut : ℕ
  pub failing : List ℕ
  pub calls : ℕ
  pub faults : ℕ

-- the octets got, the room for all of them, how many a write takes at most, the numbers of the
-- calls that fail, how many calls were made, and how many of them failed
pub record MemorySinkState : Type 0 where
  pub octets : List ℕ
  pub room : ℕ
  pub cut : ℕ
  pub failing : List ℕ
  pub calls : ℕ
  pub faults : ℕ
