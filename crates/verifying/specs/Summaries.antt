-- What comes of several verdicts together.
use Rattle.std.specs.Prelude.{Bool, true, false, List, Any}
use Rattle.verifying.specs.declared.verdict.Verdict.{Verdict}
use Rattle.verifying.specs.declared.verdict.Verdict.TheVariants.{Holds, Fails, Undecided}
use Rattle.verifying.specs.declared.summary.Summary.{Summary}
use Rattle.verifying.specs.declared.summary.Summary.TheVariants.{AllHold, OneFails, OneUndecided}

-- whatever fails and is undecided: all hold; or one fails; or none fails, and one is undecided
abbrev pub Sums : {V : Type 0} → (V → Type 0) → (V → Type 0) → List V → Summary → Type 0
Sums fails undecided verdicts AllHold = (Any fails verdicts → ⊥) × (Any undecided verdicts → ⊥)
Sums fails undecided verdicts OneFails = Any fails verdicts
Sums fails undecided verdicts OneUndecided = (Any fails verdicts → ⊥) × Any undecided verdicts

-- what comes of all, where one fails or none does, and one is undecided or none is
abbrev pub summary_of : Bool → Bool → Summary
summary_of true undecided = OneFails
summary_of false true = OneUndecided
summary_of false false = AllHold

abbrev pub IsFailure : Verdict → Type 0
IsFailure Holds = ⊥
IsFailure (Fails rows) = Unit {0}
IsFailure (Undecided depth) = ⊥

abbrev pub IsOpen : Verdict → Type 0
IsOpen Holds = ⊥
IsOpen (Fails rows) = ⊥
IsOpen (Undecided depth) = Unit {0}

-- what comes of these verdicts
abbrev pub IsSummary : List Verdict → Summary → Type 0
IsSummary verdicts summary = Sums IsFailure IsOpen verdicts summary
