use Rattle.std.proofs.Common.{◌≡◌, ◌++◌, take}
use Rattle.std.specs.List.{flat_map}
use Rattle.text_commands.specs.Stores.{pin_places}
use Rattle.text_commands.proofs.stored.push_pins.Given as goal

abbrev pub invariant-loop-pin : goal.invariant-loop-pin
invariant-loop-pin l = l.places.items ≡ l.initial.places.items ++ flat_map (pin_places l.declarations) (take l.pin-index l.pins)
