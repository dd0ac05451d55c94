use Rattle.std.proofs.Common.{◌-◌, length}
use Rattle.power_flow.proofs.showing.uprights.+comes_below.Given as goal

abbrev pub decreases-comes_below : goal.decreases-comes_below
decreases-comes_below l = length l.elements.now - l.k
