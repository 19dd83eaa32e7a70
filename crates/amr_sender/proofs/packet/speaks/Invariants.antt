use Rattle.std.proofs.Common.{◌≡◌, drop}
use Rattle.amr_frame.specs.Blocks.{frames_of}
use Rattle.spec_sending.specs.Sending.{has_speech}
use Rattle.amr_sender.proofs.packet.speaks.Given as goal

-- no frame passed is one of speech
abbrev pub invariant-loop-cell : goal.invariant-loop-cell
invariant-loop-cell l =
    has_speech l.codec (frames_of (drop l.cell-index l.block)) ≡ has_speech l.codec (frames_of l.block)
