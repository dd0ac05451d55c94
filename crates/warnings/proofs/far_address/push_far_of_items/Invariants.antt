use Rattle.std.proofs.Common.{◌≡◌, ◌++◌, map, take}
use Rattle.std.specs.List.{flat_map}
use Rattle.warnings.specs.Far.{address_in, far_of_item}
use Rattle.warnings.proofs.far_address.push_far_of_items.Given as goal

abbrev pub invariant-loop-item : goal.invariant-loop-item
invariant-loop-item l = map address_in l.found.items ≡ map address_in l.initial.found.items ++ flat_map (far_of_item l.space l.numbers l.resource) (take l.item-index l.items)
