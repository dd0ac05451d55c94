use Rattle.std.proofs.Common.{◌≡◌, take, map}
use Rattle.std.specs.Borrow.{Bor}
use Rattle.plant_grammar.specs.declared.grammar.tree.TaskLine.{TaskLine}
use Rattle.plant.specs.StandsFor.{task_value}
use Rattle.plant.proofs.sources.link.declared_tasks.Given as goal

abbrev pub invariant-loop-line : goal.invariant-loop-line
invariant-loop-line l = l.tasks.items ≡ map task_value (map (λ (t : Bor TaskLine). t.now) (take l.line-index l.lines))
