use Rattle.power_flow.specs.Steps.Comings.{AreUprightsOn}
use Rattle.power_flow.proofs.showing.uprights.join_uprights.Given as goal

abbrev pub invariant-loop-k : goal.invariant-loop-k
invariant-loop-k l = AreUprightsOn l.elements l.comings l.k l.power.items
