use Rattle.std.proofs.Common.{◌≡◌, ◌++◌, take}
use Rattle.std.specs.List.{flat_map}
use Rattle.name_faults.specs.Guess.{pin_uses}
use Rattle.name_faults.proofs.guess.push_pins.Given as goal

abbrev pub invariant-loop-pin : goal.invariant-loop-pin
invariant-loop-pin l = l.uses.items ≡ l.initial.uses.items ++ flat_map (pin_uses l.block) (take l.pin-index l.pins)
