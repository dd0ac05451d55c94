use Rattle.std.proofs.Common.{◌≡◌, ℕ, ◌<◌}
use Rattle.task_codes.specs.CodeValue.{expected_at}
use Rattle.task_codes.proofs.same_code.have_same_expected.Given as goal

abbrev pub invariant-loop-k : goal.invariant-loop-k
invariant-loop-k l = (k : ℕ) → k < l.k → expected_at l.code k ≡ expected_at l.other k
