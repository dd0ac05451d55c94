use Rattle.verifying_plants.proofs.Reaching.{tasks-reached}
use Rattle.verifying_plants.proofs.reached_tasks.reached_tasks.Goals as goal

pub returns : goal.returns
returns c =
    tasks-reached c.args.plant.now c.args.given.now c.args.claims.now c.in_ok-tasks.tasks.items c.complete.new.tasks.items c.in_ok-tasks.ensures c.in_ok-complete.ensures
