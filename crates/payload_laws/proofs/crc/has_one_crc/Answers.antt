use Rattle.payload_laws.proofs.Division.{crc_is, crc_one}
use Rattle.payload_laws.proofs.crc.has_one_crc.Goals as goal

pub returns : goal.returns
returns c = record { exists = crc_is; unique = crc_one }
