-- What a call that is lent a sink of packets promises whatever it answers. It is ours.
use Rattle.std.specs.Prelude.{◌≡◌, Result, is_ok}
use Rattle.amr_io.specs.Fault.{HasCause}
use Rattle.rtp_packet.specs.declared.packet_sink.PacketSink as packets

-- it failed only where the sink's faults rose, and the sink then takes no more packets; else it
-- takes packets as before; it still writes to the same object
pub record PacketStep {S A E : Type 0} (p : packets.Ghosts S) (old new : S) (result : Result A E)
    : Type 0 where
  pub cause : HasCause (p.faults old) (p.faults new) result
  pub same : p.same old new
  pub ready : p.ready new ≡ is_ok result
