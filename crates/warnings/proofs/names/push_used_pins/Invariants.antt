use Rattle.std.proofs.Common.{◌≡◌, ◌++◌, map, take}
use Rattle.std.specs.List.{flat_map}
use Rattle.warnings.specs.Steps.NamesOf.{used_at_pin}
use Rattle.warnings.proofs.names.push_used_pins.Given as goal

abbrev pub invariant-loop-pin : goal.invariant-loop-pin
invariant-loop-pin l =
    map (λ n. n.now) l.names.items
    ≡ map (λ n. n.now) l.initial.names.items ++ flat_map (used_at_pin l.name_use) (take l.pin-index l.pins)
