use Rattle.evaluation.proofs.retained.Retained.suits.Goals as goal

pub returns : goal.returns
returns c = rw (c.retained.ensures.list, c.values.ensures) at c.are_of.ensures
