-- What outlives a restart is what it leaves. No evaluation is known after it.
use Rattle.std.proofs.Common.{rules}
use Rattle.live_node.proofs.Outliving.{restart_alike, lasts_risen}
use Rattle.live_node.proofs.node_core.NodeCore.restart.Goals as goal

pub returns-clause-left : goal.returns-clause-left
returns-clause-left c =
    rw (← c.self.view_is) (restart_alike c.self.inside.plant.value c.self.inside.resource c.self.inside.lines c.self.inside.made c.args.incarnation c.self.inside.core c.in_ok-core.core c.self.invariant c.in_ok-core.ensures)

pub invariant_of-self : goal.invariant_of-self
invariant_of-self c = record {
  plant_is = search rules;
  resource_is = search rules;
  exists = search rules;
  firsts = search rules;
  heards = search rules;
  shaped = search rules;
  kept_each = search rules;
  lasts = lasts_risen c.self.inside.core c.in_ok-core.core c.args.incarnation c.in_ok-core.ensures;
  fewer = search rules;
}
