use Rattle.lists.proofs.Results.{kept_fault}
use Rattle.text_commands.specs.Rows.{texts}
use Rattle.verifying.specs.Steps.Asking.{RefusesHolding}
use Rattle.verifying.specs.declared.verify_fault.VerifyFault.TheVariants.{Command}
use Rattle.verifying.proofs.Asking.{held_by_rows, rows_refused, settings_refused}
use Rattle.verifying.proofs.verify_command.held_inputs.Goals as goal

pub returns-in_err-rows-clause-err : goal.returns-in_err-rows-clause-err
returns-in_err-rows-clause-err c =
    kept_fault (Command c.in_err-rows.field-0.0) (RefusesHolding c.args.declarations.now c.args.marks.now (texts c.args.words.now)) _ c.from_residual.ensures.1
    (rows_refused c.args.declarations.now c.args.marks.now (texts c.args.words.now) c.in_err-rows.field-0.0 c.in_err-rows.ensures.err)

pub returns-clause-ok : goal.returns-clause-ok
returns-clause-ok c =
    held_by_rows c.args.declarations.now c.args.marks.now (texts c.args.words.now) c.in_ok-rows.rows.items c.held_settings.result c.in_ok-rows.ensures.ok c.in_ok-rows.ensures.declared (rw c.deref.ensures.value at c.held_settings.ensures.ok)

pub returns-clause-err : goal.returns-clause-err
returns-clause-err c =
    settings_refused c.args.declarations.now c.args.marks.now (texts c.args.words.now) c.in_ok-rows.rows.items c.held_settings.result c.in_ok-rows.ensures.ok (rw c.deref.ensures.value at c.held_settings.ensures.err)
