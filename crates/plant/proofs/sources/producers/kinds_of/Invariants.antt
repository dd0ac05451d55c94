use Rattle.std.proofs.Common.{◌≡◌, take, map}
use Rattle.task_codes.specs.declared.task_output.TaskOutput.{TaskOutput}
use Rattle.plant.proofs.sources.producers.kinds_of.Given as goal

abbrev pub invariant-loop-output : goal.invariant-loop-output
invariant-loop-output l = l.kinds.items ≡ map (λ (o : TaskOutput). o.kind) (take l.output-index l.task.outputs)
