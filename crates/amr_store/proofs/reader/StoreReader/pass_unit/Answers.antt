use Rattle.std.proofs.Common.{refl, ap}
use Rattle.amr_store.proofs.Passed.{passes}
use Rattle.amr_store.proofs.reader.StoreReader.pass_unit.Goals as goal

pub returns : goal.returns
returns c =
    let tank = c.take.ensures.dropped in
    passes c.args.size c.args.self.now _ c.requires.one c.requires.unit (ap (λ t. t.held) tank)
    (ap (λ t. t.taken) tank) (ap (λ t. t.gate) tank) refl
    (record { codec = refl; channels = refl; limit = ap (λ t. t.limit) tank })
