-- What a source over a reader of std and a sink over a writer of std stand for. They are ours.
use Rattle.std.specs.Prelude.{ℕ}

-- std's reader or writer, and how often it has failed
pub record Counted (A : Type 0) : Type 0 where
  pub inner : A
  pub faults : ℕ
