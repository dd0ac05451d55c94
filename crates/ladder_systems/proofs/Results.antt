-- What holds of a result, if it is one.
use Rattle.std.proofs.Common.{Result, Ok, Err, OnOk}

-- what follows from what holds then holds
pub on_ok : {T E : Type 0} (P Q : Type 0) (r : Result T E) → OnOk r P → (P → Q) → OnOk r Q
on_ok P Q (Ok x) h then = then h
on_ok P Q (Err fault) h then = tt

-- so it is with what follows from both
pub on_both : {T E : Type 0} (P Q R : Type 0) (r : Result T E) → OnOk r P → OnOk r Q → (P → Q → R) → OnOk r R
on_both P Q R (Ok x) h k then = then h k
on_both P Q R (Err fault) h k then = tt
