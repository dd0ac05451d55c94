use Rattle.std.proofs.Common.{[], take}
use Rattle.plant_claims.specs.Steps.Scoping.{AddsTasks, tasks_of_all}
use Rattle.verifying_plants.proofs.reached_tasks.asked_tasks.Given as goal

abbrev pub invariant-loop-claim : goal.invariant-loop-claim
invariant-loop-claim l = AddsTasks [] l.tasks.items (tasks_of_all (take l.claim-index l.claims) l.given)
