-- An evaluation is what is known of its task from then on.
use Rattle.std.proofs.Common.{◌+◌, refl}
use Rattle.live_node.proofs.Outliving.{evaluation_outlives, node_made}
use Rattle.live_node.proofs.node_core.NodeCore.evaluate.Goals as goal

pub invariant_of-self-2 : goal.invariant_of-self-2
invariant_of-self-2 c =
    node_made c.self.inside.plant.value c.self.inside.resource c.self.inside.lines c.self.inside.made (c.self.inside.lines + 1) (c.self.inside.made + 1) (c.self.inside.lines + 1) c.args.task c.args.dt c.args.inputs.now c.in_ok-frame.frame
    c.self.inside.core c.evaluate.new.self c.self.invariant c.in_ok-frame.ensures.made refl refl

pub returns-clause-left : goal.returns-clause-left
returns-clause-left c =
    rw (← c.self.view_is)
    (evaluation_outlives c.self.inside.plant.value c.self.inside.resource c.self.inside.lines c.self.inside.made c.self.inside.core c.evaluate.new.self (c.self.inside.lines + 1) c.args.task c.args.dt c.args.inputs.now c.in_ok-frame.frame c.self.invariant c.in_ok-frame.ensures.made)
