-- What is known of an answer, good or not; what follows from a clause on one is `on_ok_weaker` and
-- `on_err_weaker` of std.
use Rattle.std.proofs.Common.{Result, Ok, Err, OnErr}

-- what holds whatever a call answers holds where it failed
pub on_err : {A E P : Type 0} (r : Result A E) → P → OnErr r P
on_err (Ok a) p = tt
on_err (Err e) p = p
