use Rattle.std.proofs.Common.{◌≡◌, ℕ, ◌<◌}
use Rattle.task_codes.specs.CodeValue.{bindings_at}
use Rattle.task_codes.proofs.same_code.have_same_bindings.Given as goal

abbrev pub invariant-loop-i : goal.invariant-loop-i
invariant-loop-i l = (k : ℕ) → k < l.i → bindings_at l.code k ≡ bindings_at l.other k
