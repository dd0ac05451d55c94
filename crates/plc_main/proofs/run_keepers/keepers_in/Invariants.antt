use Rattle.std.proofs.Common.{◌≡◌, map, take, string_bytes, vec_len}
use Rattle.plc_main.proofs.run_keepers.keepers_in.Given as goal

abbrev pub invariant-loop-resource : goal.invariant-loop-resource
invariant-loop-resource l =
    (vec_len l.keepers ≡ l.resource) × (map (λ k. string_bytes k.resource) l.keepers.items ≡ map (λ r. r.name) (take l.resource l.plant.resources))
