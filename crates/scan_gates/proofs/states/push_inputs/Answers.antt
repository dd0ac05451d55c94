use Rattle.scan_gates.proofs.StateBits.{more_none, more_twice}
use Rattle.scan_gates.proofs.states.push_inputs.Goals as goal

pub loop-input-init : goal.loop-input-init
loop-input-init c = record {
  built = λ v agrees. agrees;
  more = more_none c.args.signals.now.items;
}

pub loop-input-preserved : goal.loop-input-preserved
loop-input-preserved c = record {
  built = λ v agrees. c.loop-input.invariant.built v (c.in_ok-push_input.ensures.built v agrees).0;
  more = more_twice _ _ _ _ _ c.loop-input.invariant.more c.in_ok-push_input.ensures.more;
}
