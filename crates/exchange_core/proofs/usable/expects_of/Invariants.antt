use Rattle.std.proofs.Common.{◌≡◌, ◌<◌, ℕ, Some, map, slice_get}
use Rattle.declared_names.specs.Kinds.{kind_of}
use Rattle.task_codes.specs.CodeValue.{expected_at}
use Rattle.exchange_core.proofs.usable.expects_of.Given as goal

abbrev pub invariant-loop-k : goal.invariant-loop-k
invariant-loop-k l = (j : ℕ) → j < l.k → slice_get l.code.producers j ≡ Some l.task → expected_at l.code j ≡ map kind_of l.image → ⊥
