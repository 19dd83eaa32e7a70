use Rattle.record_reader.proofs.Cut.{cut_is, cut_one}
use Rattle.record_reader.proofs.laws.octets_have_one_cut.Goals as goal

pub returns : goal.returns
returns c = record { exists = cut_is; unique = cut_one }
