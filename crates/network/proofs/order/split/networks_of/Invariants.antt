use Rattle.std.proofs.Common.{◌≡◌, map, take}
use Rattle.network.specs.Steps.Listed.{stand_for}
use Rattle.network.proofs.order.split.networks_of.Given as goal

abbrev pub invariant-loop-part : goal.invariant-loop-part
invariant-loop-part l = l.networks.items ≡ map (stand_for l.drawing) (take l.part-index l.parts)
