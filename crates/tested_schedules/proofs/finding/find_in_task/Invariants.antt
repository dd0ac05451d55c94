use Rattle.std.proofs.Common.{◌≡◌, ℕ, ◌<◌, Some}
use Rattle.std_blocks.specs.declared.value.Value.{Value}
use Rattle.tested_schedules.specs.Expectations.{expected_at}
use Rattle.tested_schedules.proofs.finding.find_in_task.Given as goal

abbrev pub invariant-loop-place : goal.invariant-loop-place
invariant-loop-place l = (j : ℕ) (v : Value) → j < l.place → expected_at l.plant l.parts.name.now l.parts.value.now l.task j ≡ Some v → ⊥
