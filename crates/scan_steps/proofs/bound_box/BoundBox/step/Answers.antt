use Rattle.scan_steps.proofs.BoxesStepping.{step_result}
use Rattle.scan_steps.proofs.bound_box.BoundBox.step.Goals as goal

pub returns : goal.returns
returns c = step_result c.args.self.now c.args.slots.now c.args.dt c.args.bits.now c.take_state.new.state c.step-made.new.self c.inputs-pins.result c.step-made.result
    c.take_state.ensures c.inputs-pins.ensures c.step-made.ensures.state c.step-made.ensures.outputs
