use Rattle.media_laws.proofs.Desks.{mode_in, target_in}
use Rattle.media_laws.proofs.desk.a_desk_keeps_to_its_set.Goals as goal

pub returns : goal.returns
returns c = record { mode = mode_in; target = target_in }
