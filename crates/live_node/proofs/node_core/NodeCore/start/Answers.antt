-- No evaluation is known at the start.
use Rattle.std.proofs.Common.{rules}
use Rattle.live_node.proofs.Outliving.{lasts_risen}
use Rattle.live_node.proofs.node_core.NodeCore.start.Goals as goal

pub invariant_of-result : goal.invariant_of-result
invariant_of-result c = record {
  plant_is = search rules;
  resource_is = search rules;
  exists = search rules;
  firsts = search rules;
  heards = search rules;
  shaped = search rules;
  kept_each = search rules;
  lasts = lasts_risen c.in-Ok.core c.in_ok-restarted.field-0 c.args.incarnation c.in_ok-restarted.ensures;
  fewer = search rules;
}
