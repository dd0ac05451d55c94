use Rattle.std.proofs.Common.{◌≡◌, List, take}
use Rattle.std.specs.List.{flat_map}
use Rattle.network.specs.declared.element.Element.{Element}
use Rattle.text_commands.specs.Stores.{element_places}
use Rattle.text_commands.proofs.stored.stored_places.Given as goal

abbrev pub invariant-loop-network : goal.invariant-loop-network
invariant-loop-network l = l.places.items ≡ flat_map (λ (elements : List Element). flat_map (element_places l.declarations) elements) (take l.network-index l.network-items)
