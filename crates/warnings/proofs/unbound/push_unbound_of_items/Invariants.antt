use Rattle.std.proofs.Common.{◌≡◌, ◌++◌, map, take}
use Rattle.std.specs.List.{flat_map}
use Rattle.warnings.specs.Unbound.{names_in, unbound_of_item}
use Rattle.warnings.proofs.unbound.push_unbound_of_items.Given as goal

abbrev pub invariant-loop-item : goal.invariant-loop-item
invariant-loop-item l = map names_in l.found.items ≡ map names_in l.initial.found.items ++ flat_map (unbound_of_item l.texts l.resource) (take l.item-index l.items)
