use Rattle.std.proofs.Common.{◌<◌}
use Rattle.std.proofs.lemmas.List.Elements.{All-append}
use Rattle.scan_steps.specs.declared.bound_box.BoundOutput.{BoundOutput}
use Rattle.power_flow.specs.Steps.BoxTable.{IsBoundOutput, output_if}
use Rattle.power_flow.proofs.Boxes.BoxesBinding.{outputs_more, output_within, pin_in}
use Rattle.power_flow.proofs.binding.box_binding.outputs_of.Goals as goal

pub loop-pin-preserved : goal.loop-pin-preserved
loop-pin-preserved c =
    let b = c.args.drawn.now in
    let pin = c.pin-item.result in
    let o = c.bound_output-output.result in
    let lt = rw c.as_slice-pin-items.ensures at c.loop-pin-test.true in
    let is = rw c.as_slice-pin-items.ensures at c.pin-item.is in
    let drawn = pin_in b.pins c.loop-pin.pin-index pin lt is in
    record {
      within = λ rows within.
          let P : BoundOutput → Type 0 = λ w. w.row < rows in
          rw c.in_ok-push_output.ensures (All-append P c.loop-pin.outputs.items (output_if pin.side o) (c.loop-pin.invariant.within rows within)
          (output_within P pin.side o (rw c.bound_output-output.ensures.row (within pin drawn))));
      bound = λ outputs.
          let R = IsBoundOutput c.args.declarations.now c.args.top c.args.block in
          rw c.in_ok-push_output.ensures (outputs_more R b.pins c.loop-pin.pin-index pin c.loop-pin.outputs.items o lt is
          (λ right. let f = outputs pin drawn right in c.bound_output-output.ensures.bound f.0 f.1) (c.loop-pin.invariant.bound outputs));
    }
