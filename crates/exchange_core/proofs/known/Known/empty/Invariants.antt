use Rattle.std.proofs.Common.{◌≡◌, length, map, replicate, take, None}
use Rattle.plant.specs.PlantValue.{ResourceValue}
use Rattle.exchange_core.proofs.known.Known.empty.Given as goal

abbrev pub invariant-loop-resource : goal.invariant-loop-resource
invariant-loop-resource l = map (λ row. row.items) l.rows.items ≡ map (λ (r : ResourceValue). replicate (length r.codes) None) (take l.resource l.plant.resources)
