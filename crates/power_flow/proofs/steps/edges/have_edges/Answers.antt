use Rattle.std.proofs.Common.{subst, arith}
use Rattle.std.proofs.lemmas.List.{take_all}
use Rattle.std.proofs.lemmas.List.Elements.{All-more}
use Rattle.power_flow.specs.declared.steps.circuit.Circuit.{Circuit}
use Rattle.power_flow.specs.Steps.Edges.{AreEdgeless, AreEdgelessCircuits}
use Rattle.power_flow.proofs.steps.edges.have_edges.Goals as goal

abbrev IsPlain : Circuit → Type 0
IsPlain x = AreEdgeless x.elements.items

pub loop-circuit-init : goal.loop-circuit-init
loop-circuit-init c = λ k d lt. absurd (omega arith)

pub loop-circuit-preserved : goal.loop-circuit-preserved
loop-circuit-preserved c =
    let item = c.circuit-item.result in
    let here : IsPlain item = (rw c.deref.ensures.value at c.is_any_edge.ensures) c.if-is_any_edge.false in
    All-more IsPlain c.args.circuits.now c.loop-circuit.circuit-index item c.loop-circuit-test.true c.loop-circuit.invariant (subst IsPlain c.circuit-item.is here)

pub returns : goal.returns
returns c = λ plain. subst AreEdgelessCircuits (take_all c.loop-circuit.circuit-index c.args.circuits.now c.loop-circuit-test.false) c.loop-circuit.invariant
