use Rattle.std.proofs.Common.{◌≡◌, max, min, inl, refl, ap, arith}
use Rattle.std.proofs.lemmas.Option.{slice_get_within}
use Rattle.lists.proofs.Members.{at_contains}
use Rattle.drawings.specs.declared.place.Place.{Place}
use Rattle.network.specs.Apart.{first_place}
use Rattle.power_flow.proofs.Networks.ElementSteps.{at_number}
use Rattle.power_flow.proofs.Walks.NetworkRows.{topmost_more, above_more, lowest_more, below_more}
use Rattle.power_flow.proofs.steps.rows.Rows.of.Goals as goal

pub loop-element-preserved : goal.loop-element-preserved
loop-element-preserved c =
    let es = c.args.elements.now in
    let n = c.loop-element.element-index in
    let e = c.element-item.result in
    let there = at_number es n e e c.loop-element-test.true c.element-item.is refl in
    let first = ap (λ (p : Place). p.row) c.first_place.ensures in
    let higher = c.min-top.ensures in
    let lower = c.max-lowest.ensures in
    let top : c.min-top.result ≡ min c.loop-element.top (first_place e).row = omega arith in
    let lowest : c.max-lowest.result ≡ max c.loop-element.lowest c.lowest_row.result = omega arith in
    let order = c.loop-element.invariant.order in
    record {
      order = omega arith;
      topmost = topmost_more es n e c.loop-element.top c.min-top.result there top c.loop-element.invariant.topmost;
      lowest = lowest_more es n e c.lowest_row.result c.loop-element.lowest c.max-lowest.result there lowest c.lowest_row.ensures.reached c.loop-element.invariant.lowest;
      above = above_more es n e c.loop-element.top c.min-top.result there top c.loop-element.invariant.above;
      below = below_more es n e c.lowest_row.result c.loop-element.lowest c.max-lowest.result there lowest c.lowest_row.ensures.below c.loop-element.invariant.below;
    }

pub overflow_add-result : goal.overflow_add-result
overflow_add-result c =
    let last = c.loop-element.invariant.lowest in
    let at = at_contains c.args.elements.now last.element last.in_list in
    let page = c.requires at.0 last.element last.at at.1 last.has in
    let row = page.0 in
    let is = last.is in
    omega arith

pub returns-clause-rows : goal.returns-clause-rows
returns-clause-rows c = λ rails sound e p in' has.
    let at = at_contains c.args.elements.now e in' in
    let lt = slice_get_within c.args.elements.now at.0 e at.1 in
    let all = c.loop-element-test.false in
    let below_top = sound.tops e p in' has in
    let above = c.loop-element.invariant.above at.0 e (omega arith) at.1 in
    let below = c.loop-element.invariant.below at.0 e p (omega arith) at.1 has in
    (omega arith, omega arith)

pub returns-clause-low : goal.returns-clause-low
returns-clause-low c = λ rails sound.
    let first = c.loop-element.invariant.topmost in
    let last = c.loop-element.invariant.lowest in
    let low = sound.low first.element last.element (first_place first.element) last.at first.in_list last.in_list (inl refl) last.has in
    let top = first.is in
    let end = last.is in
    omega arith
