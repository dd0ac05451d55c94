-- Of each resource the lines of the runs that were taken stand there, before those of the others.
use Rattle.std.proofs.Common.{◌≡◌, ℕ, ◌++◌, Some, length, slice_get}
use Rattle.std.specs.Global.{Vec}
use Rattle.audit.specs.Readings.{lines_of_resource}
use Rattle.audit.specs.declared.line.Line.{Line}
use Rattle.audit.proofs.reading.by_resource.Given as goal

abbrev pub invariant-loop-run : goal.invariant-loop-run
invariant-loop-run l =
    (length l.resources.items ≡ length l.plant.resources)
    × ((n : ℕ) (lines : Vec Line) → slice_get l.resources.items n ≡ Some lines
    → lines.items ++ lines_of_resource l.run-iterator.rest.items n ≡ lines_of_resource l.fn.runs.items n)
