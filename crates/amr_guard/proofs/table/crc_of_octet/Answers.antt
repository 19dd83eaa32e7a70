use Rattle.std.proofs.Common.{arith}
use Rattle.std.proofs.lemmas.List.FromFn.{get_or-map-range_with_len}
use Rattle.amr_guard.proofs.Registers.{of_octet}
use Rattle.amr_guard.proofs.table.crc_of_octet.Goals as goal

pub returns : goal.returns
returns c = get_or-map-range_with_len of_octet 0 256 c.args.octet c.args.octet 0 (omega arith) (omega arith)
