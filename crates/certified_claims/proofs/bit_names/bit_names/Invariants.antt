use Rattle.std.proofs.Common.{◌≡◌, map, string_bytes, take}
use Rattle.std.specs.List.{flat_map}
use Rattle.declared_names.specs.declared.declarations.Declaration.{Declaration}
use Rattle.certified_claims.specs.BitNames.{declared_bits}
use Rattle.certified_claims.proofs.bit_names.bit_names.Given as goal

abbrev pub invariant-loop-place : goal.invariant-loop-place
invariant-loop-place l = map (λ n. string_bytes n) l.names.items
    ≡ flat_map (λ (d : Declaration). declared_bits d.name d.declared) (take l.place l.declarations)
