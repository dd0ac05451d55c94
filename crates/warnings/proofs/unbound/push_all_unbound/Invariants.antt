use Rattle.std.proofs.Common.{◌≡◌, ◌++◌, map, take}
use Rattle.std.specs.List.{flat_map}
use Rattle.warnings.specs.Unbound.{names_in, unbound_at}
use Rattle.warnings.proofs.unbound.push_all_unbound.Given as goal

abbrev pub invariant-loop-place : goal.invariant-loop-place
invariant-loop-place l = map names_in l.found.items ≡ map names_in l.initial.found.items ++ flat_map (unbound_at l.resource l.used) (take l.place l.declarations)
