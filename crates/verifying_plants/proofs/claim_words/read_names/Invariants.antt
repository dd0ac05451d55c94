use Rattle.std.proofs.Common.{map, take}
use Rattle.std.specs.List.{AllZip}
use Rattle.verifying_plants.specs.Names.{IsNamed}
use Rattle.verifying_plants.proofs.claim_words.read_names.Given as goal

abbrev pub invariant-loop-place : goal.invariant-loop-place
invariant-loop-place l = AllZip (IsNamed l.plant) (take l.place (map (λ n. n.now) l.names)) l.outputs.items
