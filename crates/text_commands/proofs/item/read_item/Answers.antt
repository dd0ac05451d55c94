use Rattle.text_commands.proofs.item.read_item.Goals as goal

pub returns-in_err-each : goal.returns-in_err-each
returns-in_err-each c = rw c.from_residual.ensures (λ item is. c.in_err-each.ensures.times item.times is.times)
