-- The runs are those of the lines before the present one.
use Rattle.audit.specs.Readings.{lines_in, HasRuns}
use Rattle.audit.proofs.runs.runs_in.Given as goal

abbrev pub invariant-loop-k : goal.invariant-loop-k
invariant-loop-k l = HasRuns l.plant l.file (lines_in l.text) l.k l.runs.items
