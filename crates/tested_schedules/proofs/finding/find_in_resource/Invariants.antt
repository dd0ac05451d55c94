use Rattle.std.proofs.Common.{◌≡◌, ℕ, ◌<◌, Some}
use Rattle.std_blocks.specs.declared.value.Value.{Value}
use Rattle.tested_schedules.specs.Expectations.{expected_at}
use Rattle.tested_schedules.proofs.finding.find_in_resource.Given as goal

abbrev pub invariant-loop-task : goal.invariant-loop-task
invariant-loop-task l = (j place : ℕ) (v : Value) → j < l.task → expected_at l.plant l.parts.name.now l.parts.value.now (record { resource = l.resource; task = j }) place ≡ Some v → ⊥
