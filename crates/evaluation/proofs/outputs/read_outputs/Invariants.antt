use Rattle.std.proofs.Common.{◌≡◌, Some, map, take}
use Rattle.declared_names.specs.Kinds.{kind_of}
use Rattle.task_codes.specs.declared.task_output.TaskOutput.{TaskOutput}
use Rattle.evaluation.specs.Meaning.{output_value}
use Rattle.evaluation.proofs.outputs.read_outputs.Given as goal

abbrev pub invariant-loop-k : goal.invariant-loop-k
invariant-loop-k l = record {
  values : map (λ v. Some v) l.values.items ≡ map (output_value l.states) (take l.k l.code.outputs);
  kinds : map kind_of l.values.items ≡ map (λ (o : TaskOutput). o.kind) (take l.k l.code.outputs);
}
