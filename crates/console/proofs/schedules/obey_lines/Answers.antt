use Rattle.lists.proofs.Results.{kept_fault}
use Rattle.tested_schedules.specs.TestedLines.{EndsTestedLines}
use Rattle.console.proofs.TracedRuns.{live_texts, no_live_texts}
use Rattle.console.proofs.schedules.obey_lines.Goals as goal

pub returns-in_err-tested-clause-fault : goal.returns-in_err-tested-clause-fault
returns-in_err-tested-clause-fault g c =
    kept_fault c.in_err-tested.field-0.0 (EndsTestedLines c.args.plant.value c.args.request.now.max_number _ _ _ _ _) _ c.from_residual.ensures.1 c.in_err-tested.ensures.fault

pub returns-in-Ok-clause-ok : goal.returns-in-Ok-clause-ok
returns-in-Ok-clause-ok g c = live_texts c.args.plant.value c.args.request.now _ _ _ _ c.in_ok-tested.tested c.in-Ok.answered c.in_ok-tested.ensures.ok c.in-Ok.ensures.status c.in-Ok.ensures.texts

pub returns-clause-fault : goal.returns-clause-fault
returns-clause-fault g c = no_live_texts c.args.plant.value c.args.request.now.max_number _ _ _ _ _ c.in_ok-tested.tested c.in_ok-tested.ensures.ok
