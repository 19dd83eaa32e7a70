-- Logs of the same records are recorded as the same file.
use Rattle.std.proofs.Common.{◌≡◌, ℕ, List}
use Rattle.order_laws.proofs.Heard.{same_file}
use Rattle.return_laws.specs.Ordering.{HoldTheSame, IsInTime}
use Rattle.spec_record.specs.RecordMeaning.{record_meaning}
use Rattle.spec_record.specs.Recording.{Recording}
use Rattle.spec_run.specs.LogRuns.{records_of}
use Rattle.spec_session.specs.Session.{rules_of}

pub ordered : (r : Recording) (limit window reach : ℕ) (log other : List ℕ) → r.rules ≡ rules_of r.profile window reach
    → HoldTheSame limit log other → IsInTime r limit log → IsInTime r limit other
    → (record_meaning r limit).out log ≡ (record_meaning r limit).out other
ordered r limit window reach log other e same one two =
    same_file r window reach (records_of limit log) (records_of limit other) e same one two
