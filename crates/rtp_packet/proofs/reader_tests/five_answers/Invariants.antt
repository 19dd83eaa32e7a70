use Rattle.rtp_packet.specs.Reading.{IsUsable}
use Rattle.rtp_packet.proofs.reader_tests.five_answers.Given as goal

abbrev pub invariant-loop-i : goal.invariant-loop-i
invariant-loop-i l = IsUsable l.reader
