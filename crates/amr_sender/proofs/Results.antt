-- Answers, good or not.
use Rattle.std.proofs.Common.{Result, Ok, Err, OnErr}

pub on_err : {T E : Type 0} (r : Result T E) (P : Type 0) → P → OnErr r P
on_err (Ok _) P p = tt
on_err (Err _) P p = p
