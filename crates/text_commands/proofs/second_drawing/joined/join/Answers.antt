use Rattle.text_commands.proofs.second_drawing.joined.join.Goals as goal

pub returns-clause-apart : goal.returns-clause-apart
returns-clause-apart c = rw (c.len-count.ensures, c.networks.ensures.networks, c.networks-2.ensures.networks) at c.in_ok-check_apart.ensures
