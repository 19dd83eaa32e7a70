use Rattle.std.proofs.Common.{ap, sym, ◌∙◌}
use Rattle.sending_laws.proofs.Places.{back, is_place, there}
use Rattle.spec_sending.specs.Groups.{place_of_block}
use Rattle.amr_group.proofs.laws.each_block_is_in_one_packet.Goals as goal

pub returns-clause-some : goal.returns-clause-some
returns-clause-some c = λ n l m one some. (place_of_block n l m, is_place n l m one some, back n l m one some)

pub returns-clause-alone : goal.returns-clause-alone
returns-clause-alone c = λ n l p q a b same.
    sym (there n l p a) ∙ ap (place_of_block n l) same ∙ there n l q b
