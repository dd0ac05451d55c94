use Rattle.std.proofs.Common.{◌≡◌, ◌++◌, take}
use Rattle.std.specs.List.{flat_map}
use Rattle.warnings.specs.Presets.{preset_at_pin}
use Rattle.warnings.proofs.presets.push_presets_at_pins.Given as goal

abbrev pub invariant-loop-pin : goal.invariant-loop-pin
invariant-loop-pin l = l.warnings.items ≡ l.initial.warnings.items ++ flat_map (preset_at_pin l.dt l.first_line) (take l.pin-index l.pins)
