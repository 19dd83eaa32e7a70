-- Counts of a session, packet by packet. This project's own.
use Rattle.std.specs.Prelude.{◌+◌}
use Rattle.amr_playout.specs.declared.answers.Kept.{Kept}
use Rattle.amr_playout.specs.declared.answers.Taken.{Taken}

-- the counts with what a packet gave
abbrev pub counted_with : Kept → Taken → Kept
counted_with counts taken = record {
  late = counts.late + taken.late;
  copies = counts.copies + taken.copies;
  blocks = counts.blocks + taken.released;
}
