use Rattle.listing_laws.proofs.Lines.{listing_grows}
use Rattle.listing_laws.proofs.growing.a_listing_grows.Goals as goal

pub returns : goal.returns
returns c = listing_grows
