use Rattle.std.proofs.Common.{◌≡◌, ◌<◌, ℕ, Some, slice_get}
use Rattle.std_blocks.specs.declared.value.Value.{Value}
use Rattle.task_codes.specs.declared.retained_variable.RetainedVariable.{RetainedVariable}
use Rattle.declared_names.specs.Kinds.{kind_of}
use Rattle.evaluation.proofs.retained.are_of.Given as goal

abbrev pub invariant-loop-i : goal.invariant-loop-i
invariant-loop-i l = (k : ℕ) (x : Value) (v : RetainedVariable) → k < l.i → slice_get l.values k ≡ Some x → slice_get l.variables k ≡ Some v → kind_of x ≡ v.kind
