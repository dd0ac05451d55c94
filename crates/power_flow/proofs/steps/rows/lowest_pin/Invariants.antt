use Rattle.std.proofs.Common.{◌≡◌, ◌⊎◌, ℕ, ◌<◌, ◌≤◌, Some, slice_get}
use Rattle.drawings.specs.declared.drawn_box.DrawnPin.{DrawnPin}
use Rattle.power_flow.proofs.steps.rows.lowest_pin.Given as goal

abbrev pub invariant-loop-pin : goal.invariant-loop-pin
invariant-loop-pin l = record {
  top : l.drawn.top ≤ l.lowest;
  below : (j : ℕ) (pin : DrawnPin) → j < l.pin-index → slice_get l.drawn.pins j ≡ Some pin → pin.row ≤ l.lowest;
  reached : (l.lowest ≡ l.drawn.top) ⊎ ((j : ℕ) × (pin : DrawnPin) × (slice_get l.drawn.pins j ≡ Some pin) × (pin.row ≡ l.lowest));
}
