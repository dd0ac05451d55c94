use Rattle.std.proofs.Common.{◌≡◌, ◌<◌, ℕ, Some, slice_get}
use Rattle.std_blocks.specs.declared.value.Value.{Value}
use Rattle.declared_names.specs.declared.declarations.Kind.{Kind}
use Rattle.declared_names.specs.Kinds.{value_first}
use Rattle.evaluation.proofs.image.are_initial.Given as goal

abbrev pub invariant-loop-i : goal.invariant-loop-i
invariant-loop-i l = (k : ℕ) (kind : Kind) (v : Value) → k < l.i → slice_get l.kinds k ≡ Some kind → slice_get l.values k ≡ Some v → value_first kind ≡ v
