use Rattle.std.proofs.Common.{◌-◌, ℕ, Any, inl, inr, sym, subst, arith}
use Rattle.std.proofs.lemmas.Bool.{cases_eq}
use Rattle.lists.proofs.Members.{any_at}
use Rattle.network.specs.declared.element.Element.{Element}
use Rattle.network.specs.Links.{Stands, place}
use Rattle.network.specs.GraphValue.{diagram}
use Rattle.power_flow.proofs.Walks.Uprights.{upright_is}
use Rattle.power_flow.proofs.steps.steps.first_row.Goals as goal

pub loop-number-preserved : goal.loop-number-preserved
loop-number-preserved c =
    let es = c.args.elements.now in
    let row = c.loop-number.row in
    let column = c.args.at.column in
    let found = c.stands_at.ensures.0 c.if-stands_at.true in
    let order = c.loop-number.invariant.order in
    record {
      here = found;
      order = omega arith;
      each = λ r low high. elim (cases_eq r (row - 1)) [
        | inl is ↦
            let P : ℕ → Type 0 = λ y. Any (λ (e : Element). Stands e (place y column)) es in
            subst P (sym is) (any_at (λ (e : Element). Stands e (place (row - 1) column)) es (c.loop-number.number - 1) found.0 found.1 found.2)
        | inr ne ↦ c.loop-number.invariant.each r (omega arith) high
      ];
    }

pub returns-else-stands_at-clause-upright : goal.returns-else-stands_at-clause-upright
returns-else-stands_at-clause-upright c = λ rails sound below.
    let here = c.loop-number.invariant.here in
    upright_is (diagram rails c.args.elements.now) sound c.loop-number.number c.loop-number.row c.args.at.row c.args.at.column here.0 here.1 here.2
    c.loop-number.invariant.order c.loop-number.invariant.each below
    (inr (inr (λ f at stands. (let yes = c.stands_at.ensures.1 (f, at, stands) in let no = c.if-stands_at.false in cc))))

pub returns-after-loop-number-clause-upright : goal.returns-after-loop-number-clause-upright
returns-after-loop-number-clause-upright c = λ rails sound below.
    let here = c.loop-number.invariant.here in
    let none = c.loop-number-test.false in
    upright_is (diagram rails c.args.elements.now) sound c.loop-number.number c.loop-number.row c.args.at.row c.args.at.column here.0 here.1 here.2
    c.loop-number.invariant.order c.loop-number.invariant.each below (inl (omega arith))
