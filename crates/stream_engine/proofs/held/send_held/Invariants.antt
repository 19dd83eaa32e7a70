use Rattle.std.proofs.Common.{◌≡◌, false, length}
use Rattle.amr_sender.specs.Single.{SendsSingly}
use Rattle.amr_store.specs.Reading.{channels_of, codec_of, held}
use Rattle.stream_engine.specs.Held.{SentHeld}
use Rattle.stream_engine.proofs.held.send_held.Given as goal

abbrev pub invariant-held : goal.invariant-held
invariant-held g l = record {
  sent : SentHeld g.O.Sink l.fn.sender l.sender l.fn.reader l.reader l.fn.sink l.sink l.count;
  single : SendsSingly l.sender.plan;
  unspent : l.sender.spent ≡ false;
  codec : codec_of l.reader ≡ l.sender.plan.profile.codec;
  one : channels_of l.reader ≡ 1;
}

abbrev pub decreases-held : goal.decreases-held
decreases-held g l = length (held l.reader)
