use Rattle.std.proofs.Common.{◌≡◌, drop}
use Rattle.amr_frame.specs.Blocks.{frames_of}
use Rattle.spec_sending.specs.Sending.{is_empty}
use Rattle.amr_sender.proofs.packet.is_silent.Given as goal

-- no frame passed is other than NO_DATA
abbrev pub invariant-loop-cell : goal.invariant-loop-cell
invariant-loop-cell l = is_empty (frames_of (drop l.cell-index l.cells)) ≡ is_empty (frames_of l.cells)
