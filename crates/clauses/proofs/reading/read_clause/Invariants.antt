use Rattle.std.proofs.Common.{take}
use Rattle.clauses.specs.Steps.Readings.{IsReading}
use Rattle.clauses.proofs.reading.read_clause.Given as goal

abbrev pub invariant-loop-literal : goal.invariant-loop-literal
invariant-loop-literal l = IsReading l.known (take l.literal-index l.clause) l.reading
