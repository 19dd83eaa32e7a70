use Rattle.std.specs.Prelude.{refl}
use Rattle.std.specs.Fmt.{digits}
use Rattle.hex.specs.Hex.{encode_with}
use Rattle.listing_rows.proofs.listings.listed_payloads.Goals as goal

pub returns-clause-one_frame : goal.returns-clause-one_frame
unfolding digits encode_with
returns-clause-one_frame c = refl

pub returns-clause-of_a_group : goal.returns-clause-of_a_group
unfolding digits encode_with
returns-clause-of_a_group c = refl

pub returns-clause-two_channels : goal.returns-clause-two_channels
unfolding digits encode_with
returns-clause-two_channels c = refl

pub returns-clause-damaged : goal.returns-clause-damaged
unfolding digits encode_with
returns-clause-damaged c = refl

pub returns-clause-damaged_with_q_0 : goal.returns-clause-damaged_with_q_0
unfolding digits encode_with
returns-clause-damaged_with_q_0 c = refl

pub returns-clause-bits : goal.returns-clause-bits
unfolding digits encode_with
returns-clause-bits c = refl

pub returns-clause-fill_bits : goal.returns-clause-fill_bits
unfolding digits encode_with
returns-clause-fill_bits c = refl
