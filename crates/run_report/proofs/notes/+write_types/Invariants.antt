use Rattle.std.proofs.Common.{length}
use Rattle.run_report.proofs.notes.+write_types.Given as goal

abbrev pub decreases-write_types : goal.decreases-write_types
decreases-write_types g l = length l.types.now
