use Rattle.std.proofs.Common.{◌≡◌, ◌+◌, ◌*◌, drop}
use Rattle.amr_toc.specs.Entries.{table_text}
use Rattle.amr_toc.proofs.Writing.{Between}
use Rattle.amr_toc.proofs.write.write_toc.Given as goal

abbrev pub invariant-loop-k : goal.invariant-loop-k
invariant-loop-k l =
    (l.at.written ≡ l.initial.at.written + l.width * l.k)
    × Between l.initial.out l.initial.at.written (table_text l.width l.entries) l.out l.at.written (table_text l.width (drop l.k l.entries)) l.k
