use Rattle.std.specs.Prelude.{refl}
use Rattle.std.specs.Fmt.{digits}
use Rattle.hex.specs.Hex.{encode_with}
use Rattle.listing_rows.proofs.listings.listed_packets.Goals as goal

pub returns-clause-null : goal.returns-clause-null
unfolding digits encode_with
returns-clause-null c = refl

pub returns-clause-h1 : goal.returns-clause-h1
unfolding digits encode_with
returns-clause-h1 c = refl

pub returns-clause-h2 : goal.returns-clause-h2
unfolding digits encode_with
returns-clause-h2 c = refl

pub returns-clause-h3 : goal.returns-clause-h3
unfolding digits encode_with
returns-clause-h3 c = refl

pub returns-clause-h4 : goal.returns-clause-h4
unfolding digits encode_with
returns-clause-h4 c = refl

pub returns-clause-h5 : goal.returns-clause-h5
unfolding digits encode_with
returns-clause-h5 c = refl

pub returns-clause-other_type : goal.returns-clause-other_type
unfolding digits encode_with
returns-clause-other_type c = refl

pub returns-clause-fields : goal.returns-clause-fields
unfolding digits encode_with
returns-clause-fields c = refl
