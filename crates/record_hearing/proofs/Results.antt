-- Answers, good or not.
use Rattle.std.proofs.Common.{Result, Ok, Err, OnErr, OnOk}

pub on_err : {T E : Type 0} (r : Result T E) (P : Type 0) → P → OnErr r P
on_err (Ok _) P p = tt
on_err (Err _) P p = p

-- what follows from what holds of an answer
pub on_ok_then : {T E : Type 0} (P Q : Type 0) (r : Result T E) → (P → Q) → OnOk r P → OnOk r Q
on_ok_then P Q (Ok _) f p = f p
on_ok_then P Q (Err _) f p = tt

pub on_err_then : {T E : Type 0} (P Q : Type 0) (r : Result T E) → (P → Q) → OnErr r P → OnErr r Q
on_err_then P Q (Ok _) f p = tt
on_err_then P Q (Err _) f p = f p

pub on_ok_all : {T E : Type 0} (P Q S R : Type 0) (r : Result T E) → (P → Q → S → R) → OnOk r P → OnOk r Q → OnOk r S → OnOk r R
on_ok_all P Q S R (Ok _) f p q s = f p q s
on_ok_all P Q S R (Err _) f p q s = tt
