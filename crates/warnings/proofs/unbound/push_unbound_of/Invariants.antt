use Rattle.std.proofs.Common.{◌≡◌, ◌++◌, map, take}
use Rattle.std.specs.List.{flat_map}
use Rattle.warnings.specs.Unbound.{names_in, unbound_in}
use Rattle.warnings.proofs.unbound.push_unbound_of.Given as goal

abbrev pub invariant-loop-text : goal.invariant-loop-text
invariant-loop-text l = map names_in l.found.items ≡ map names_in l.initial.found.items ++ flat_map (unbound_in l.resource l.used) (take l.text-index l.texts)
