-- A message that is taken in changes no more than what is known of its task.
use Rattle.std.proofs.Common.{◌+◌, refl}
use Rattle.live_node.proofs.Outliving.{node_taken}
use Rattle.live_node.proofs.node_core.NodeCore.accept.Goals as goal

pub invariant_of-self : goal.invariant_of-self
invariant_of-self c =
    node_taken c.self.inside.plant.value c.self.inside.resource c.self.inside.lines c.self.inside.made (c.self.inside.lines + 1) c.args.message c.accept.result c.self.inside.core c.accept.new.self c.self.invariant c.accept.ensures.answer refl
