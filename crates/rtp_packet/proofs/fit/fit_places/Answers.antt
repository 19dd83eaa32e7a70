use Rattle.std.proofs.Common.{arith}
use Rattle.rtp_packet.proofs.fit.fit_places.Goals as goal

pub returns : goal.returns
returns c = record {
  type = omega arith;
  numbers = c.numbers_fit.ensures;
  sources = (omega arith, c.are_numbers.ensures);
  extension = c.extension_fits.ensures;
  payload = c.are_octets.ensures;
}
