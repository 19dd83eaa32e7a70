use Rattle.store_laws.proofs.Named.{named}
use Rattle.store_laws.proofs.edges.a_reserved_type_is_named_at_its_place.Goals as goal

pub returns : goal.returns
returns c = named
