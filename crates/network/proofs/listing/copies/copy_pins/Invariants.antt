use Rattle.std.proofs.Common.{◌≡◌, take}
use Rattle.network.proofs.listing.copies.copy_pins.Given as goal

abbrev pub invariant-loop-pin : goal.invariant-loop-pin
invariant-loop-pin l = record {
  copied : l.copy ≡ take l.pin-index l.pin-items;
  items : l.pin-items ≡ l.pins;
}
