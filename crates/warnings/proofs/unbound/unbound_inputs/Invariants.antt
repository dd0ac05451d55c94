use Rattle.std.proofs.Common.{◌≡◌, map, take}
use Rattle.warnings.specs.Unbound.{names_in, all_unbound}
use Rattle.warnings.proofs.unbound.unbound_inputs.Given as goal

abbrev pub invariant-loop-resource : goal.invariant-loop-resource
invariant-loop-resource l = map names_in l.found.items ≡ all_unbound l.texts (take l.resource-index l.resources)
