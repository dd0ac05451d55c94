use Rattle.std.proofs.Common.{◌≡◌, false, subst, sym, ◌∙◌, arith}
use Rattle.std.proofs.lemmas.List.{take_all}
use Rattle.std.proofs.lemmas.List.Elements.{All-more}
use Rattle.network.specs.declared.element.Element.{Element}
use Rattle.power_flow.specs.Steps.Edges.{is_edge, AreEdgeless}
use Rattle.power_flow.proofs.steps.edges.is_any_edge.Goals as goal

abbrev IsPlain : Element → Type 0
IsPlain e = is_edge e ≡ false

pub loop-element-init : goal.loop-element-init
loop-element-init c = λ k d lt. absurd (omega arith)

pub loop-element-preserved : goal.loop-element-preserved
loop-element-preserved c =
    let item = c.element-item.result in
    let here : IsPlain item = sym c.is_edge.ensures ∙ c.if-is_edge.false in
    All-more IsPlain c.args.elements.now c.loop-element.element-index item c.loop-element-test.true c.loop-element.invariant (subst IsPlain c.element-item.is here)

pub returns : goal.returns
returns c = λ plain. subst AreEdgeless (take_all c.loop-element.element-index c.args.elements.now c.loop-element-test.false) c.loop-element.invariant
