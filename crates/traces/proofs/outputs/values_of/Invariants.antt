use Rattle.std.proofs.Common.{◌≡◌, ◌++◌, drop}
use Rattle.traces.specs.Moments.{made_at}
use Rattle.traces.specs.Outputs.{values_behind, values_from}
use Rattle.traces.proofs.outputs.values_of.Given as goal

abbrev pub invariant-loop-made : goal.invariant-loop-made
invariant-loop-made l =
    l.values.items ++ values_behind l.task l.output l.value (made_at (drop l.made-index l.moments)) ≡ values_from l.task l.output l.fn.first (made_at l.moments)
