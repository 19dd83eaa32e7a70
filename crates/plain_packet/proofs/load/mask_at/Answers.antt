use Rattle.plain_packet.proofs.Masking.{kept_at}
use Rattle.plain_packet.proofs.load.mask_at.Goals as goal

pub returns : goal.returns
returns c = kept_at c.args.full c.args.at c.requires.full c.requires.at
