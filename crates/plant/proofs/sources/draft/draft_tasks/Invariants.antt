use Rattle.std.proofs.Common.{take, map}
use Rattle.std.specs.List.{AllZip}
use Rattle.std.specs.Borrow.{Bor}
use Rattle.plant_grammar.specs.declared.grammar.tree.TaskLine.{TaskLine}
use Rattle.plant.specs.Steps.Drafts.{programs_in, IsDraftOf}
use Rattle.plant.proofs.sources.draft.draft_tasks.Given as goal

abbrev pub invariant-loop-task : goal.invariant-loop-task
invariant-loop-task l = AllZip (IsDraftOf (programs_in l.types) l.resource) (map (λ (x : Bor TaskLine). x.now) (take l.task-index l.tasks)) l.drafts.items
