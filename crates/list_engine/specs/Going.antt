-- What a lister holds while records come. This project's own.
use Rattle.std.specs.Prelude.{◌≡◌, ℕ, List, [], length}
use Rattle.amr_mode.specs.declared.desk.ModeDesk.{ModeDesk}
use Rattle.list_engine.specs.Records.{HeardRecords}
use Rattle.list_engine.specs.declared.job.ListJob.{ListJob}

-- it listed these records
pub record Stands (job : ListJob) (d : ModeDesk) (count : ℕ) (records : List (List ℕ)) : Type 0
  where
    pub heard : HeardRecords job d records
    pub counted : length records ≡ count

-- it listed no record
pub record IsNew (job : ListJob) (d : ModeDesk) (count : ℕ) : Type 0 where
  pub heard : HeardRecords job d []
  pub none : count ≡ 0
