use Rattle.std.specs.Prelude.{refl}
use Rattle.std.specs.Fmt.{digits}
use Rattle.hex.specs.Hex.{encode_with}
use Rattle.listing_rows.proofs.listings.ends_of_listings.Goals as goal

pub returns-clause-whole : goal.returns-clause-whole
unfolding digits encode_with
returns-clause-whole c = refl

pub returns-clause-cut_short : goal.returns-clause-cut_short
unfolding digits encode_with
returns-clause-cut_short c = refl

pub returns-clause-limit : goal.returns-clause-limit
unfolding digits encode_with
returns-clause-limit c = refl
