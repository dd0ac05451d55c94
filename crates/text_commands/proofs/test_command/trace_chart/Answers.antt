use Rattle.text_commands.proofs.test_command.trace_chart.Goals as goal

pub returns : goal.returns
returns c = (c.in_ok-states.ensures, rw (c.declarations.ensures.list, c.deref.ensures.value) at c.in_ok-text.ensures)
