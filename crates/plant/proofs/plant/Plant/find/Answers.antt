use Rattle.plant.proofs.FoundTasks.{found_named}
use Rattle.plant.proofs.plant.Plant.find.Goals as goal

pub returns-in-Some : goal.returns-in-Some
returns-in-Some c = found_named c.args.self.now c.args.name.now c.in-Some.owner.now c.in-Some.task.now c.task_of.result c.in-Some.ensures c.task_of.ensures
