-- What holds of a result, if it is one.
use Rattle.std.proofs.Common.{Result, Ok, Err, IfOk, OnOk}

-- what follows from what holds of it holds of it
pub if_ok : {T E : Type 0} (P Q : T → Type 0) (r : Result T E) → IfOk r P → ((x : T) → P x → Q x) → IfOk r Q
if_ok P Q (Ok x) h then = then x h
if_ok P Q (Err fault) h then = tt

-- what follows from what holds then holds
pub on_ok : {T E : Type 0} (P Q : Type 0) (r : Result T E) → OnOk r P → (P → Q) → OnOk r Q
on_ok P Q (Ok x) h then = then h
on_ok P Q (Err fault) h then = tt
