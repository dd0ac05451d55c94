use Rattle.std.proofs.Common.{◌≡◌, List, map, take}
use Rattle.std.specs.List.{flat_map}
use Rattle.network.specs.declared.element.Element.{Element}
use Rattle.warnings.proofs.elements.elements_of.Given as goal

abbrev pub invariant-loop-network : goal.invariant-loop-network
invariant-loop-network l = map (λ e. e.now) l.all.items ≡ flat_map (λ (elements : List Element). elements) (take l.network-index l.network-items)
