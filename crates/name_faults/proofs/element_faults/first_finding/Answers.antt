use Rattle.name_faults.proofs.FirstFindings.{first_network, first_none}
use Rattle.name_faults.proofs.element_faults.first_finding.Goals as goal

pub loop-network-init : goal.loop-network-init
loop-network-init c = first_none c.args.declarations.now c.args.networks.now

pub loop-network-preserved : goal.loop-network-preserved
loop-network-preserved c =
    let found = rw c.elements.ensures at c.network_finding.ensures in
    first_network c.args.declarations.now c.args.networks.now c.loop-network.network-index c.network-item.result c.loop-network.first c.network_finding.result c.earlier-first.result
    c.loop-network-test.true c.network-item.is c.loop-network.invariant found c.earlier-first.ensures
