use Rattle.std.proofs.Common.{◌≡◌, ℕ, ◌<◌, Some, slice_get}
use Rattle.drawings.specs.declared.drawn_box.DrawnPin.{DrawnPin}
use Rattle.drawings.specs.declared.drawn_box.Side.TheVariants.{Left}
use Rattle.std_blocks.specs.Pins.{pin_of, input}
use Rattle.power_flow.proofs.binding.box_binding.drawn_input.Given as goal

abbrev pub invariant-loop-pin : goal.invariant-loop-pin
invariant-loop-pin l = (j : ℕ) (pin : DrawnPin) → j < l.pin-index → slice_get l.pin-items j ≡ Some pin → pin.side ≡ Left → pin_of l.block pin.name ≡ Some (input l.field) → ⊥
