-- What holds of a result that hands on a fault.
use Rattle.std.proofs.Common.{◌≡◌, Result, Ok, Err, IfErr, sym, subst}
use Rattle.std.specs.Result.{IsErrAnd}

pub kept_fault : {T E : Type 0} (e : E) (P : E → Type 0) (r : Result T E) → IsErrAnd r (λ fault. fault ≡ e) → P e → IfErr r P
kept_fault e P (Ok x) is h = tt
kept_fault e P (Err fault) is h = subst P (sym is) h
