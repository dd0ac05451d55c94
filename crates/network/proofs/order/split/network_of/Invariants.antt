use Rattle.std.proofs.Common.{◌≡◌, take}
use Rattle.network.specs.Steps.Listed.{stand_for}
use Rattle.network.proofs.order.split.network_of.Given as goal

abbrev pub invariant-loop-entry : goal.invariant-loop-entry
invariant-loop-entry l = l.network ≡ stand_for l.drawing (take l.entry-index l.entries)
