use Rattle.std.proofs.Common.{◌≡◌, ◌∙◌, ◌≤◌, ◌-◌, ℕ, IsTrue, leb, Some, length, slice_get, min, max, refl, ap, rules, tests, arith}
use Rattle.std.proofs.lemmas.Option.{slice_get_read}
use Rattle.drawings.specs.declared.place.Place.{Place}
use Rattle.network.proofs.Sought.FirstFound.{rows_more, tall_from, far_from}
use Rattle.network.proofs.seeking.found.is_tall.Goals as goal

at_least : (x : ℕ) → IsTrue (leb 200 x) → 200 ≤ x
at_least x h = search (rules, tests)

is_at_least : (x : ℕ) → 200 ≤ x → IsTrue (leb 200 x)
is_at_least x h = search (rules, tests)

pub loop-element-preserved : goal.loop-element-preserved
loop-element-preserved c =
    let es = c.args.elements.now in
    let n = c.loop-element.element-index in
    let e = c.element-item.result in
    let at : slice_get es n ≡ Some e = slice_get_read es (length es) n e refl c.loop-element-test.true c.element-item.is in
    record {
      rows = rows_more es c.loop-element.top c.loop-element.bottom c.min-top.result c.greater-bottom.result n e at
          (c.min-top.ensures ∙ ap (λ (x : Place). min c.loop-element.top x.row) c.first_place.ensures) (c.greater-bottom.ensures ∙ ap (max c.loop-element.bottom) c.lowest_row_of.ensures) c.loop-element.invariant.rows;
      fits = c.greater-bottom.type_inv;
    }

pub returns : goal.returns
returns c =
    let es = c.args.elements.now in
    let top = c.loop-element.top in
    let bottom = c.loop-element.bottom in
    let n = c.loop-element.element-index in
    let i = c.loop-element.invariant in
    let sub : c.saturating_sub.result ≡ bottom - top = c.saturating_sub.ensures in (
      (λ h. tall_from es top bottom n (let f = i.fits in omega arith) (let far = at_least c.saturating_sub.result h in omega arith) i.rows),
      (λ tall. is_at_least c.saturating_sub.result (let far = far_from es top bottom n c.loop-element-test.false i.rows tall in omega arith)),
    )
