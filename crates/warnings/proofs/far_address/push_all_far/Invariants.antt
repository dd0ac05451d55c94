use Rattle.std.proofs.Common.{◌≡◌, ◌++◌, map, take}
use Rattle.std.specs.List.{flat_map}
use Rattle.warnings.specs.Far.{address_in, far_at}
use Rattle.warnings.proofs.far_address.push_all_far.Given as goal

abbrev pub invariant-loop-bind : goal.invariant-loop-bind
invariant-loop-bind l = map address_in l.found.items ≡ map address_in l.initial.found.items ++ flat_map (far_at l.space l.numbers l.resource l.instance) (take l.bind-index l.binds)
