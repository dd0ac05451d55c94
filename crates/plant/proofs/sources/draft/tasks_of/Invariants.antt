use Rattle.std.proofs.Common.{◌≡◌, take, map}
use Rattle.std.specs.Borrow.{Bor}
use Rattle.std.specs.List.{flat_map}
use Rattle.plant_grammar.specs.declared.grammar.tree.TaskLine.{TaskLine}
use Rattle.plant_grammar.specs.Lawful.{task_of}
use Rattle.plant.proofs.sources.draft.tasks_of.Given as goal

abbrev pub invariant-loop-item : goal.invariant-loop-item
invariant-loop-item l = map (λ (t : Bor TaskLine). t.now) l.tasks.items ≡ flat_map task_of (take l.item-index l.resource.items.items)
