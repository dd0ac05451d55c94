use Rattle.std.proofs.Common.{◌≡◌, ◌++◌, map, string_bytes, take}
use Rattle.std.specs.List.{flat_map}
use Rattle.certified_claims.specs.BitNames.{memory_bits}
use Rattle.certified_claims.proofs.bit_names.push_memories.Given as goal

abbrev pub invariant-loop-element : goal.invariant-loop-element
invariant-loop-element l = map (λ n. string_bytes n) l.names.items
    ≡ map (λ n. string_bytes n) l.initial.names.items ++ flat_map memory_bits (take l.element-index l.elements)
