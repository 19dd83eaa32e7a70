use Rattle.std.proofs.Common.{◌∙◌}
use Rattle.std.proofs.lemmas.List.FromFn.{length-map-range_with_len}
use Rattle.amr_bits.specs.Bits.{bit_at}
use Rattle.amr_frame.proofs.cell.Cell.from_bits.Goals as goal

pub returns-clause-valid : goal.returns-clause-valid
returns-clause-valid c = record {
  type = c.requires.type_exists;
  known = c.requires.not_reserved;
  size = length-map-range_with_len (bit_at c.load.result.octets) 0 c.load.result.len ∙ c.load.ensures.len ∙ c.requires.size;
}

pub returns-clause-of_codec : goal.returns-clause-of_codec
returns-clause-of_codec = returns-clause-valid
