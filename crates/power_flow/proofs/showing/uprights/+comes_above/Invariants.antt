use Rattle.power_flow.proofs.showing.uprights.+comes_above.Given as goal

abbrev pub decreases-comes_above : goal.decreases-comes_above
decreases-comes_above l = l.k
