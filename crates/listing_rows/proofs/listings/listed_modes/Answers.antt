use Rattle.std.specs.Prelude.{refl}
use Rattle.std.specs.Fmt.{digits}
use Rattle.hex.specs.Hex.{encode_with}
use Rattle.listing_rows.proofs.listings.listed_modes.Goals as goal

pub returns-clause-neighbours : goal.returns-clause-neighbours
unfolding digits encode_with
returns-clause-neighbours c = refl

pub returns-clause-every_other : goal.returns-clause-every_other
unfolding digits encode_with
returns-clause-every_other c = refl

pub returns-clause-no_step_at_refused : goal.returns-clause-no_step_at_refused
unfolding digits encode_with
returns-clause-no_step_at_refused c = refl
