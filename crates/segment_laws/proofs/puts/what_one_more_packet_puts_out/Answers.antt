use Rattle.segment_laws.proofs.Putting.{begun_puts, joined_puts, refused_puts}
use Rattle.segment_laws.proofs.puts.what_one_more_packet_puts_out.Goals as goal

pub returns : goal.returns
returns c = record { accepted = joined_puts; begun = begun_puts; refused = refused_puts }
