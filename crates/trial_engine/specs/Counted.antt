-- What a line counts. This project's own.
use Rattle.std.specs.Prelude.{ℕ, ◌*◌, ◌≤◌, ◌^◌}

-- of so many packets that were put these were lost, delivered twice, and held, and so many heard:
-- at most three for each
pub record AreFew (sent lost doubled held heard : ℕ) : Type 0 where
  pub sent_few : sent ≤ 2 ^ 32
  pub lost_few : lost ≤ sent
  pub doubled_few : doubled ≤ sent
  pub held_few : held ≤ sent
  pub heard_few : heard ≤ 3 * sent
