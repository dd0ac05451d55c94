use Rattle.std.proofs.Common.{◌+◌, inr, arith}
use Rattle.lists.proofs.Members.{any_at}
use Rattle.network.specs.Links.{place}
use Rattle.network.specs.GraphValue.{diagram}
use Rattle.power_flow.specs.Steps.Columns.{StandsIn}
use Rattle.power_flow.specs.Steps.Columns.Joins.{within, lowest}
use Rattle.network.specs.declared.element.Element.{Element}
use Rattle.network.specs.Links.{Stands}
use Rattle.power_flow.proofs.Walks.Uprights.{below_stands}
use Rattle.power_flow.proofs.steps.steps.joining.Goals as goal

pub overflow_add-below : goal.overflow_add-below
overflow_add-below c =
    let e = c.requires.stands in
    let page = c.requires.page c.args.k e.0 c.args.at e.1 (inr (inr (inr e.2))) in
    let row = page.0 in omega arith

pub returns-then-stands_at : goal.returns-then-stands_at
returns-then-stands_at c = λ rails sound.
    let found = c.stands_at.ensures.0 c.if-stands_at.true in
    within (any_at (λ (e : Element). Stands e (place (c.args.at.row + 1) c.args.at.column)) c.args.elements.now (c.args.k + 1) found.0 found.1 found.2)

pub returns : goal.returns
returns c = λ rails sound.
    let e = c.requires.stands in
    let not_below : StandsIn (diagram rails c.args.elements.now) (c.args.at.row + 1) c.args.at.column → ⊥ = λ any. (let next = below_stands (diagram rails c.args.elements.now) sound c.args.k e.0 c.args.at e.1 e.2 any in
    let yes = c.stands_at.ensures.1 next in let no = c.if-stands_at.false in absurd (cc)) in
    rw (c.row_below.ensures, c.row_below-2.ensures) (lowest c.first_row-first.result (c.first_row-first.ensures.upright rails sound not_below))
