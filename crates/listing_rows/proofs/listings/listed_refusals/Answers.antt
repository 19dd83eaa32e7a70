use Rattle.std.specs.Prelude.{refl}
use Rattle.std.specs.Fmt.{digits}
use Rattle.hex.specs.Hex.{encode_with}
use Rattle.listing_rows.proofs.listings.listed_refusals.Goals as goal

pub returns-clause-p10 : goal.returns-clause-p10
unfolding digits encode_with
returns-clause-p10 c = refl

pub returns-clause-p2 : goal.returns-clause-p2
unfolding digits encode_with
returns-clause-p2 c = refl

pub returns-clause-p6 : goal.returns-clause-p6
unfolding digits encode_with
returns-clause-p6 c = refl

pub returns-clause-p7 : goal.returns-clause-p7
unfolding digits encode_with
returns-clause-p7 c = refl

pub returns-clause-p9 : goal.returns-clause-p9
unfolding digits encode_with
returns-clause-p9 c = refl

pub returns-clause-p3 : goal.returns-clause-p3
unfolding digits encode_with
returns-clause-p3 c = refl

pub returns-clause-p4 : goal.returns-clause-p4
unfolding digits encode_with
returns-clause-p4 c = refl

pub returns-clause-p5 : goal.returns-clause-p5
unfolding digits encode_with
returns-clause-p5 c = refl

pub returns-clause-p8 : goal.returns-clause-p8
unfolding digits encode_with
returns-clause-p8 c = refl
