-- The runs are those of the files before the present one.
use Rattle.audit.specs.Readings.{HaveRuns}
use Rattle.audit.proofs.reading.all_runs.Given as goal

abbrev pub invariant-loop-file : goal.invariant-loop-file
invariant-loop-file l = HaveRuns l.plant l.files l.file l.runs.items l.without_start.items
