use Rattle.std.proofs.Common.{◌≡◌, map, take}
use Rattle.std.specs.List.{flat_map}
use Rattle.warnings.specs.Steps.NamesOf.{used_at}
use Rattle.warnings.proofs.names.names_of.Given as goal

abbrev pub invariant-loop-element : goal.invariant-loop-element
invariant-loop-element l =
    map (λ n. n.now) l.names.items ≡ flat_map (used_at l.name_use) (map (λ e. e.now) (take l.element-index l.elements))
