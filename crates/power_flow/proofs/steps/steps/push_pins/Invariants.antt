use Rattle.std.proofs.Common.{◌≡◌, ◌++◌, List, Contains, take}
use Rattle.std.specs.List.{AllZip}
use Rattle.drawings.specs.declared.drawn_box.DrawnPin.{DrawnPin}
use Rattle.drawings.specs.declared.drawn_box.Side.TheVariants.{Left}
use Rattle.network.specs.declared.element.Element.{Element}
use Rattle.network.specs.Links.{place}
use Rattle.network.specs.GraphValue.{diagram}
use Rattle.scan_steps.specs.declared.step.Step.{Step}
use Rattle.power_flow.specs.Steps.Columns.{IsLeftPinBegun, left_pins, joined}
use Rattle.power_flow.specs.Steps.RowEnds.{TellsLed}
use Rattle.power_flow.proofs.steps.steps.push_pins.Given as goal

abbrev pub invariant-loop-pin : goal.invariant-loop-pin
invariant-loop-pin l = (elements : List Element)
    → ((pin : DrawnPin) → Contains l.drawn.pins pin → pin.side ≡ Left → TellsLed (diagram l.rails elements) l.top l.ends (place pin.row l.drawn.left))
    → (begins : List (List Step)) × AllZip (IsLeftPinBegun (diagram l.rails elements) l.top l.drawn) (left_pins (take l.pin-index l.drawn.pins)) begins × (l.steps.items ≡ l.fn.steps.items ++ joined begins)
