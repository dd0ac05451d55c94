-- What comes of verdicts of which one fails or none does, and one is undecided or none is.
use Rattle.std.proofs.Common.{◌↔◌, Bool, true, false, List, Any, refl}
use Rattle.std.specs.Prelude.{IsTrue}
use Rattle.verifying.specs.Summaries.{Sums, summary_of}

pub sums : {V : Type 0} (fails undecided : V → Type 0) (verdicts : List V) (a b : Bool) → (IsTrue a ↔ Any fails verdicts) → (IsTrue b ↔ Any undecided verdicts) → Sums fails undecided verdicts (summary_of a b)
sums fails undecided verdicts true b f u = f.0 refl
sums fails undecided verdicts false true f u = (λ any. let e = f.1 any in cc, u.0 refl)
sums fails undecided verdicts false false f u = (λ any. let e = f.1 any in cc, λ any. let e = u.1 any in cc)
