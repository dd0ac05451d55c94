use Rattle.plant.specs.Steps.Drafts.{programs_in, IsDraftOf}
use Rattle.plant.proofs.Zips.{zip_more_at}
use Rattle.plant.proofs.sources.draft.draft_tasks.Goals as goal

pub loop-task-preserved : goal.loop-task-preserved
loop-task-preserved c =
    zip_more_at (IsDraftOf (programs_in c.args.types.now) c.args.resource.now) c.args.tasks.now c.loop-task.task-index c.loop-task.drafts.items c.push.new.self.items c.task-item.result c.in_ok-draft_task.field-0
    c.loop-task-test.true c.task-item.is c.loop-task.invariant c.in_ok-draft_task.ensures c.in_ok-push.ensures.items
