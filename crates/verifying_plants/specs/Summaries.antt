-- What comes of several verdicts on claims about a plant together.
use Rattle.std.specs.Prelude.{List}
use Rattle.plant_claims.specs.declared.plant_verdict.PlantVerdict.{PlantVerdict}
use Rattle.plant_claims.specs.declared.plant_verdict.PlantVerdict.TheVariants.{Holds, Fails, Undecided}
use Rattle.verifying.specs.declared.summary.Summary.{Summary}
use Rattle.verifying.specs.Summaries.{Sums}

abbrev pub IsFailure : PlantVerdict → Type 0
IsFailure Holds = ⊥
IsFailure (Fails schedule) = Unit {0}
IsFailure (Undecided why) = ⊥

abbrev pub IsOpen : PlantVerdict → Type 0
IsOpen Holds = ⊥
IsOpen (Fails schedule) = ⊥
IsOpen (Undecided why) = Unit {0}

-- what comes of these verdicts
abbrev pub IsSummary : List PlantVerdict → Summary → Type 0
IsSummary verdicts summary = Sums IsFailure IsOpen verdicts summary
