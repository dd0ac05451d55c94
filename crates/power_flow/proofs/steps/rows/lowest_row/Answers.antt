use Rattle.power_flow.proofs.steps.rows.lowest_row.Goals as goal

pub returns-in-Box-clause-below : goal.returns-in-Box-clause-below
returns-in-Box-clause-below c = rw c.in-Box.is (rw c.drawn.ensures at c.lowest_pin.ensures.below)
