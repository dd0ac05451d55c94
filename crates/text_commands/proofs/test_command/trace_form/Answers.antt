use Rattle.std.proofs.lemmas.Result.{IfOk-weaker}
use Rattle.text_commands.proofs.TestAnswers.{chart_form, drawings_form, rows_form}
use Rattle.text_commands.proofs.test_command.trace_form.Goals as goal

pub returns-in-Rows : goal.returns-in-Rows
returns-in-Rows c = rw c.in-Rows.is (IfOk-weaker c.trace_rows.result _ _ (λ made is. rows_form c.args.drawing.now _ _ _ _ _ _ _ is.0 is.1) c.trace_rows.ensures)

pub returns-in-Drawings : goal.returns-in-Drawings
returns-in-Drawings c = rw c.in-Drawings.is (IfOk-weaker c.trace_drawings.result _ _ (λ made is. drawings_form c.args.drawing.now _ _ _ _ _ _ _ _ is) c.trace_drawings.ensures)

pub returns-in-Chart : goal.returns-in-Chart
returns-in-Chart c = rw c.in-Chart.is (IfOk-weaker c.trace_chart.result _ _ (λ made is. chart_form c.args.drawing.now _ _ _ _ _ _ _ is.0 is.1) c.trace_chart.ensures)
