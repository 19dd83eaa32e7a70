-- Answers, good or not.
use Rattle.std.proofs.Common.{Result, Ok, Err, OnErr, OnOk}

pub on_err : {T E : Type 0} (r : Result T E) (P : Type 0) → P → OnErr r P
on_err (Ok _) P p = tt
on_err (Err _) P p = p

pub on_ok_then : {T E : Type 0} (r : Result T E) (P Q : Type 0) → (P → Q) → OnOk r P → OnOk r Q
on_ok_then (Ok _) P Q f p = f p
on_ok_then (Err _) P Q f p = tt

pub on_err_then : {T E : Type 0} (r : Result T E) (P Q : Type 0) → (P → Q) → OnErr r P → OnErr r Q
on_err_then (Ok _) P Q f p = tt
on_err_then (Err _) P Q f p = f p
