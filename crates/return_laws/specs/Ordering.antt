-- Logs of the same records in another order, and what is asked of each of them: this project's own.
use Rattle.std.specs.Prelude.{ℕ, List}
use Rattle.order_laws.specs.Order.{AllInTime, HaveTheSame}
use Rattle.spec_record.specs.Recording.{Recording, heard}
use Rattle.spec_run.specs.LogRuns.{records_of}

-- of their first `limit` octets, logs hold the same records, in any order and with any repeats
abbrev pub HoldTheSame : ℕ → List ℕ → List ℕ → Type 0
HoldTheSame limit log other = HaveTheSame (records_of limit log) (records_of limit other)

-- each well-formed packet among the records is accepted, no block is late, and the places span less
-- than 2^31 ticks
abbrev pub IsInTime : Recording → ℕ → List ℕ → Type 0
IsInTime r limit log = AllInTime r.rules (heard r (records_of limit log))
