use Rattle.lists.proofs.Results.{kept_fault}
use Rattle.text_commands.specs.Rows.{texts}
use Rattle.text_commands.specs.EvalText.{Explains}
use Rattle.text_commands.proofs.SettingWords.{settings_of_variables}
use Rattle.text_commands.proofs.Explaining.{all_written, explain_rows, part_written}
use Rattle.text_commands.proofs.eval_command.eval.Goals as goal

pub write_scans-requires-clause-rows : goal.write_scans-requires-clause-rows
write_scans-requires-clause-rows g c =
    let read = rw c.declarations.ensures.list at c.in_ok-rows.ensures.ok in
    rw c.deref-2.ensures.value (settings_of_variables c.in_ok-ladder.ladder.declarations (texts c.args.words.now) c.in_ok-rows.rows.items read)

pub returns-in_err-rows-clause-fault : goal.returns-in_err-rows-clause-fault
returns-in_err-rows-clause-fault g c =
    let refused = rw (c.declarations.ensures.list) at c.in_err-rows.ensures.err in
    kept_fault c.in_err-rows.field-0.0 (Explains c.args.drawing.now (texts c.args.words.now) c.args.dt _ _) _ c.from_residual-in_err-rows.ensures.1
    (explain_rows c.args.drawing.now (texts c.args.words.now) c.args.dt _ c.in_ok-ladder.ladder.declarations c.in_ok-ladder.ladder.networks c.in_err-rows.field-0.0 c.in_ok-ladder.ensures.ok refused)

pub returns-in_err-write_scans-clause-fault : goal.returns-in_err-write_scans-clause-fault
returns-in_err-write_scans-clause-fault g c =
    let read = rw c.declarations.ensures.list at c.in_ok-rows.ensures.ok in
    let many = rw c.deref.ensures.value at c.scan_count-scans.ensures in
    let stopped = rw (c.deref-2.ensures.value, many) at c.in_err-write_scans.ensures.stopped in
    part_written c.args.drawing.now (texts c.args.words.now) c.args.dt _ _ c.in_ok-ladder.ladder.declarations c.in_ok-ladder.ladder.networks c.in_ok-rows.rows.items c.in_err-write_scans.field-0.0 _
    c.from_residual-in_err-write_scans.ensures.1 c.in_ok-ladder.ensures.ok read stopped

pub returns-clause-ok : goal.returns-clause-ok
returns-clause-ok g c =
    let read = rw c.declarations.ensures.list at c.in_ok-rows.ensures.ok in
    let many = rw c.deref.ensures.value at c.scan_count-scans.ensures in
    let written = rw (c.deref-2.ensures.value, many) at c.in_ok-write_scans.ensures.ok in
    all_written c.args.drawing.now (texts c.args.words.now) c.args.dt _ _ c.in_ok-ladder.ladder.declarations c.in_ok-ladder.ladder.networks c.in_ok-rows.rows.items c.in_ok-ladder.ensures.ok read written.0
