use Rattle.std.proofs.Common.{◌≡◌, ◌<◌, ℕ, Some, slice_get}
use Rattle.std_blocks.specs.declared.value.Value.{Value}
use Rattle.declared_names.specs.declared.declarations.Kind.{Kind}
use Rattle.declared_names.specs.Kinds.{kind_of}
use Rattle.evaluation.proofs.image.have_kinds.Given as goal

abbrev pub invariant-loop-i : goal.invariant-loop-i
invariant-loop-i l = (k : ℕ) (v : Value) (kind : Kind) → k < l.i → slice_get l.values k ≡ Some v → slice_get l.kinds k ≡ Some kind → kind_of v ≡ kind
