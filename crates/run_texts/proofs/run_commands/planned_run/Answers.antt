-- The commands for a plan are numbered, and for resources of the plant.
use Rattle.run_texts.proofs.Planning.{ok_more, planned_numbered, planned_for_plant}
use Rattle.run_texts.proofs.run_commands.planned_run.Goals as goal

pub returns-clause-numbered : goal.returns-clause-numbered
returns-clause-numbered c = ok_more _ _ c.run_until.result (λ run. planned_numbered c.args.plant.now c.args.until c.args.inputs.now run) c.run_until.ensures.ok

pub returns-clause-resources : goal.returns-clause-resources
returns-clause-resources c = ok_more _ _ c.run_until.result (λ run. planned_for_plant c.args.plant.now c.args.until c.args.inputs.now run) c.run_until.ensures.ok
