use Rattle.std.proofs.Common.{◌≡◌, ◌++◌, map, string_bytes, take}
use Rattle.std.specs.List.{flat_map}
use Rattle.power_flow.specs.declared.steps.circuit.Circuit.{Circuit}
use Rattle.certified_claims.specs.BitNames.{memory_bits}
use Rattle.certified_claims.proofs.bit_names.push_circuits.Given as goal

abbrev pub invariant-loop-circuit : goal.invariant-loop-circuit
invariant-loop-circuit l = map (λ n. string_bytes n) l.names.items
    ≡ map (λ n. string_bytes n) l.initial.names.items ++ flat_map (λ (c : Circuit). flat_map memory_bits c.elements.items) (take l.circuit-index l.circuits)
