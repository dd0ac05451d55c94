use Rattle.name_faults.specs.Steps.ElementFindings.{element_findings}
use Rattle.name_faults.proofs.FirstFindings.{first_flat}
use Rattle.name_faults.proofs.element_faults.network_finding.Goals as goal

pub loop-element-preserved : goal.loop-element-preserved
loop-element-preserved c = first_flat (element_findings c.args.declarations.now c.args.elements.now) c.args.elements.now c.loop-element.element-index c.element-item.result c.loop-element.first c.element_finding.result c.earlier-first.result
    c.loop-element-test.true c.element-item.is c.loop-element.invariant c.element_finding.ensures c.earlier-first.ensures
