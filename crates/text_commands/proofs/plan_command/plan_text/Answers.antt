use Rattle.text_commands.specs.PlanText.{ExplainsPlan}
use Rattle.lists.proofs.Results.{kept_fault}
use Rattle.text_commands.proofs.PlanExplaining.{plan_refused, plan_written, plan_partly}
use Rattle.text_commands.proofs.plan_command.plan_text.Goals as goal

pub returns-in_err-dues-clause-fault : goal.returns-in_err-dues-clause-fault
returns-in_err-dues-clause-fault g c =
    kept_fault c.in_err-dues.field-0.0 (ExplainsPlan c.args.plant.now c.args.until c.args.form _ _) _ c.from_residual-in_err-dues.ensures.1
    (plan_refused c.args.plant.now c.args.until c.args.form _ c.in_ok-plant.plant c.in_err-dues.field-0.0 c.in_ok-plant.ensures.ok c.in_err-dues.ensures.err)

pub returns-in_err-write_dues-clause-fault : goal.returns-in_err-write_dues-clause-fault
returns-in_err-write_dues-clause-fault g c =
    plan_partly c.args.plant.now c.args.until c.args.form _ _ c.in_ok-plant.plant c.in_ok-dues.dues.items c.in_err-write_dues.field-0.0 _ c.from_residual-in_err-write_dues.ensures.1 c.in_ok-plant.ensures.ok c.in_ok-dues.ensures.ok
    (rw c.deref.ensures.value at c.in_err-write_dues.ensures.stopped)

pub returns-clause-ok : goal.returns-clause-ok
returns-clause-ok g c =
    plan_written c.args.plant.now c.args.until c.args.form _ _ c.in_ok-plant.plant c.in_ok-dues.dues.items c.in_ok-plant.ensures.ok c.in_ok-dues.ensures.ok (rw c.deref.ensures.value at c.in_ok-write_dues.ensures.ok)
