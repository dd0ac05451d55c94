-- Why an evaluation that a thread has made isn't entered.
use Rattle.std.specs.Prelude.{◌≢◌, reverse}
use Rattle.evaluation.specs.Meaning.{Evaluated}
use Rattle.book.specs.declared.book.misfit.Misfit.{Misfit}
use Rattle.book.specs.declared.book.misfit.Misfit.TheVariants as misfit
use Rattle.book.specs.Book.{BookValue, IsMisfit}
use Rattle.node_reports.specs.declared.cause.Cause.{Cause}
use Rattle.node_reports.specs.declared.cause.Cause.TheVariants.{OutOfTurns, NoSuchTask, NumbersSpent, Memory, Misfit as MisfitCause, Keeper, NotSent, Stopped}

-- memory is wanting for an evaluation that fits, or it doesn't fit
abbrev pub IsNotEntered : BookValue → Evaluated → Cause → Type 0
IsNotEntered book x Memory = IsMisfit book.first (reverse book.entries) x misfit.Memory
IsNotEntered book x MisfitCause = (m : Misfit) × (m ≢ misfit.Memory) × IsMisfit book.first (reverse book.entries) x m
IsNotEntered book x OutOfTurns = ⊥
IsNotEntered book x NoSuchTask = ⊥
IsNotEntered book x NumbersSpent = ⊥
IsNotEntered book x Keeper = ⊥
IsNotEntered book x NotSent = ⊥
IsNotEntered book x Stopped = ⊥
