use Rattle.std.proofs.Common.{◌≡◌, map, take}
use Rattle.warnings.specs.Far.{address_in, all_far}
use Rattle.warnings.proofs.far_address.far_addresses.Given as goal

abbrev pub invariant-loop-resource : goal.invariant-loop-resource
invariant-loop-resource l = map address_in l.found.items ≡ all_far (take l.resource-index l.resources)
