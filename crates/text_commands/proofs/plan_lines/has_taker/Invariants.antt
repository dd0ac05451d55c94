use Rattle.std.proofs.Common.{◌≡◌, false, take}
use Rattle.std.specs.List.{list_any}
use Rattle.task_codes.specs.CodeValue.{CodeValue}
use Rattle.evaluation.specs.Last.{same_task}
use Rattle.plant.specs.PlantValue.{codes_at}
use Rattle.text_commands.proofs.plan_lines.has_taker.Given as goal

abbrev pub invariant-loop-task : goal.invariant-loop-task
invariant-loop-task l = list_any (λ (c : CodeValue). list_any (λ p. same_task p l.producer) c.producers) (take l.task (codes_at l.plant l.resource)) ≡ false
