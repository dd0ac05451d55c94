use Rattle.std.proofs.Common.{◌<◌}
use Rattle.tested_schedules.specs.declared.expectation.Expectation.{Expectation}
use Rattle.tested_schedules.specs.Steps.Finding.{IsExpectedOf}
use Rattle.tested_schedules.proofs.finding.find_expectation.Given as goal

abbrev pub invariant-loop-resource : goal.invariant-loop-resource
invariant-loop-resource l = (x : Expectation) → x.task.resource < l.resource → IsExpectedOf l.plant l.parts.name.now l.parts.value.now x → ⊥
