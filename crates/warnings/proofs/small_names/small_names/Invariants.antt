use Rattle.std.proofs.Common.{map, take}
use Rattle.warnings.specs.Steps.NameSets.{AreSmall}
use Rattle.warnings.proofs.small_names.small_names.Given as goal

abbrev pub invariant-loop-name : goal.invariant-loop-name
invariant-loop-name l = AreSmall (map (λ n. n.now) (take l.name-index l.names)) l.set
