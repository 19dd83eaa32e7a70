use Rattle.std.proofs.Common.{◌≡◌, false}
use Rattle.std.specs.Prelude.{IsTrue}
use Rattle.amr_frame.specs.declared.codec.Codec.TheVariants.{Amr}
use Rattle.amr_sender.proofs.tests.send.Given as goal

abbrev pub invariant-loop-ft : goal.invariant-loop-ft
invariant-loop-ft g l = record {
  unspent : l.sender.spent ≡ false;
  blocks : l.sender.blocks ≡ l.ft-index;
  codec : l.sender.plan.profile.codec ≡ Amr;
  channels : l.sender.plan.profile.channels ≡ 1;
  ready : IsTrue (g.P.PacketSink.ready l.out);
}
