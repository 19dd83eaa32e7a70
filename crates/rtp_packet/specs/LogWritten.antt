-- What a writer of logs did to the sink that it writes to (RFC 4571, 2).
use Rattle.std.specs.Prelude.{◌≡◌, ℕ, List, Option}
use Rattle.std.specs.Io.KnownBytes.{Appends}
use Rattle.amr_io.specs.declared.sink.Sink as sink
use Rattle.amr_io.specs.Told.{AppendsFront}
use Rattle.rtp_packet.specs.declared.log_writer.LogWriter.{LogWriter}
use Rattle.spec_packet.specs.Log.{framed}

-- two writers write to the same sink, it to the same object, and what stands beside its octets is
-- as before
pub record SameLog {O : Type 0} (aside : O → Option (List (List ℕ × List ℕ)))
    (alike : O → O → Type 0) (v w : LogWriter O) : Type 0 where
  pub reference : w.sink.ghost_name ≡ v.sink.ghost_name
  pub object : alike v.sink.now w.sink.now
  pub beside : aside w.sink.now ≡ aside v.sink.now

-- the sink got the record of a packet more
pub record WrotePacket {O : Type 0} (k : sink.Ghosts O) (v : LogWriter O) (packet : List ℕ)
    (w : LogWriter O) : Type 0 where
  pub same : SameLog k.beside k.same v w
  pub octets : Appends (k.got v.sink.now) (k.got w.sink.now) (framed packet)

-- the sink got a front of the record of a packet more
pub record WrotePart {O : Type 0} (k : sink.Ghosts O) (v : LogWriter O) (packet : List ℕ)
    (w : LogWriter O) : Type 0 where
  pub same : SameLog k.beside k.same v w
  pub octets : AppendsFront (k.got v.sink.now) (k.got w.sink.now) (framed packet)
