use Rattle.std.proofs.Common.{◌<◌, arith}
use Rattle.std.proofs.lemmas.Option.{slice_get_within}
use Rattle.plant.specs.Find.{IsTaskAt}
use Rattle.plant.proofs.FoundTasks.{tasks_more}
use Rattle.plant.proofs.plant.Plant.task_of.Goals as goal

pub loop-resource-preserved : goal.loop-resource-preserved
loop-resource-preserved c = tasks_more (IsTaskAt c.args.self.now c.args.owner.now c.args.task.now) c.loop-resource.resource c.in-None.ensures c.loop-resource.invariant

pub returns : goal.returns
returns c = λ t at.
    let within = slice_get_within c.args.self.now.resources t.resource at.owner at.resource_is.stands in
    let count = c.resources-resource-end.ensures.count in
    let less : t.resource < c.loop-resource.resource = omega arith in
    c.loop-resource.invariant t less at
