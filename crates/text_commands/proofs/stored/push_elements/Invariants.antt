use Rattle.std.proofs.Common.{◌≡◌, ◌++◌, take}
use Rattle.std.specs.List.{flat_map}
use Rattle.text_commands.specs.Stores.{element_places}
use Rattle.text_commands.proofs.stored.push_elements.Given as goal

abbrev pub invariant-loop-element : goal.invariant-loop-element
invariant-loop-element l = l.places.items ≡ l.initial.places.items ++ flat_map (element_places l.declarations) (take l.element-index l.elements)
