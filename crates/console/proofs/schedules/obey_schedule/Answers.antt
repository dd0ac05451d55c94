use Rattle.lists.proofs.Results.{kept_fault}
use Rattle.tested_schedules.specs.Tested.{EndsEarly}
use Rattle.console.proofs.TracedRuns.{no_texts, run_texts}
use Rattle.console.proofs.schedules.obey_schedule.Goals as goal

pub returns-in_err-tested-clause-fault : goal.returns-in_err-tested-clause-fault
returns-in_err-tested-clause-fault g c =
    kept_fault c.in_err-tested.field-0.0 (EndsEarly c.args.plant.value c.args.request.now.max_number c.args.schedule.now _ _) _ c.from_residual.ensures.1 c.in_err-tested.ensures.fault

pub returns-in-Ok-clause-ok : goal.returns-in-Ok-clause-ok
returns-in-Ok-clause-ok g c = run_texts c.args.plant.value c.args.request.now c.args.schedule.now _ _ c.in_ok-tested.tested c.in-Ok.answered c.in_ok-tested.ensures.ok c.in-Ok.ensures.status c.in-Ok.ensures.texts

pub returns-clause-fault : goal.returns-clause-fault
returns-clause-fault g c = no_texts c.args.plant.value c.args.request.now.max_number c.args.schedule.now _ _ c.in_ok-tested.tested c.in_ok-tested.ensures.ok
