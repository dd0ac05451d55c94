use Rattle.std.proofs.Common.{sym, ap, subst, List}
use Rattle.std.proofs.lemmas.List.{take_all}
use Rattle.std.specs.List.{AllZip}
use Rattle.drawings.specs.declared.drawn_box.DrawnPin.{DrawnPin}
use Rattle.network.specs.GraphValue.{diagram}
use Rattle.power_flow.specs.Steps.Columns.{IsLeftPinBegun, left_pins}
use Rattle.power_flow.specs.Steps.RowEnds.{listed}
use Rattle.power_flow.proofs.Networks.ElementSteps.{left_pins_more}
use Rattle.power_flow.proofs.steps.steps.push_pins.Goals as goal

pub loop-pin-preserved : goal.loop-pin-preserved
loop-pin-preserved c = λ elements tells.
    let lt = rw c.as_slice-pin-items.ensures at c.loop-pin-test.true in
    let is = rw c.as_slice-pin-items.ensures at c.pin-item.is in
    let b = c.args.drawn.now in
    let pin = c.pin-item.result in
    let n = c.loop-pin.pin-index in
    let was = c.loop-pin.invariant elements tells in
    let R = IsLeftPinBegun (diagram c.args.rails.now elements) c.args.top b in
    left_pins_more R b.pins n pin was.0 (listed c.pin_beginning.result) c.args.steps.now.items c.loop-pin.steps.items c.push_step.new.steps.items lt is
    (λ left. c.pin_beginning.ensures.left elements (tells pin (n, lt, sym is) left) left) (λ right. ap listed (c.pin_beginning.ensures.right right)) was.1 was.2 c.in_ok-push_step.ensures

pub returns : goal.returns
returns c = λ elements tells.
    let all = rw c.as_slice-pin-items.ensures at c.loop-pin-test.false in
    let was = c.loop-pin.invariant elements tells in
    let P : List DrawnPin → Type 0 = λ pins. AllZip (IsLeftPinBegun (diagram c.args.rails.now elements) c.args.top c.args.drawn.now) (left_pins pins) was.0 in
    (was.0, subst P (take_all c.loop-pin.pin-index c.args.drawn.now.pins all) was.1, was.2)
