use Rattle.std.proofs.Common.{◌≡◌, take}
use Rattle.drawings.proofs.drawn_box.Pins.try_copy.Given as goal

abbrev pub invariant-loop-pin : goal.invariant-loop-pin
invariant-loop-pin l = l.copy ≡ take l.pin-index l.pin-items
