use Rattle.std.proofs.Common.{ap}
use Rattle.record_reader.proofs.LogCut.{cut_case, cut_is, cut_one}
use Rattle.record_reader.proofs.laws.a_log_has_one_cut.Goals as goal

pub returns : goal.returns
returns c = record {
  exists = cut_is;
  unique = cut_one;
  packets = λ octets. ap (λ c. c.packets) (cut_case octets);
  rest = λ octets. ap (λ c. c.rest) (cut_case octets);
}
