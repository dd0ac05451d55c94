-- One more fault.
use Rattle.std.proofs.Common.{arith, ◌<◌, ◌++◌, ◌∷◌, [], length, ap, ◌∙◌}
use Rattle.node_reports.specs.declared.node_fault.NodeFault.{NodeFault}
use Rattle.node.proofs.Noting.{more_pushed, taken_pushed, taken_all}
use Rattle.node.proofs.threads.joining.append.Goals as goal

pub loop-k-preserved : goal.loop-k-preserved
loop-k-preserved c =
    let within : c.loop-k.k < length c.args.more.now.listed.items = omega arith in
    let f = c.index.result.now in
    let is = c.in_ok-push.ensures.items in (
      more_pushed c.args.faults.now.items c.loop-k.faults.items c.push.new.self.items f is c.loop-k.invariant.0,
      taken_pushed c.args.more.now.listed.items c.loop-k.faults.items c.push.new.self.items c.loop-k.k f within
          (is ∙ ap (λ (g : NodeFault). c.loop-k.faults.items ++ g ∷ []) c.index.ensures) c.loop-k.invariant.1,
    )

pub returns-clause-noted : goal.returns-clause-noted
returns-clause-noted c = taken_all c.args.more.now.listed.items c.loop-k.faults.items c.loop-k.k (omega arith) c.loop-k.invariant.1
