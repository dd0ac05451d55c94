use Rattle.std.proofs.Common.{◌≡◌, true, false, sym, ◌∙◌, ap, subst, Option}
use Rattle.std.specs.Option.{is_some}
use Rattle.drawings.specs.declared.drawn_box.DrawnPin.{DrawnPin}
use Rattle.drawings.specs.declared.place.Place.{Place}
use Rattle.ladder_rows.specs.Boxes.{outlines}
use Rattle.ladder_text.specs.Faults.{is_stray_operand}
use Rattle.ladder_text.specs.FirstFault.{IsStrayPinAt}
use Rattle.ladder_text.proofs.Faults.FirstPlaces.{item_found, item_passed, any_found, any_passed, all_items}
use Rattle.ladder_text.proofs.places.marked_grid.MarkedGrid.first_stray_pin.Goals as goal
use Rattle.ladder_text.proofs.places.marked_grid.MarkedGrid.first_stray_pin.Goals.{in-Some, in_default}

pub loop-pin-preserved : goal.loop-pin-preserved
loop-pin-preserved c =
    let bs = outlines c.args.self.now in
    let xs = c.as_slice-pin-items.result.now in
    let i = c.loop-pin.pin-index in
    let h = c.loop-pin-test.true in
    let x = c.pin-item.result in
    let before = c.loop-pin.invariant in
    elim c.match-stray_operand.branch [
      | in-Some w ↦
          let t = subst (λ (q : DrawnPin). is_stray_operand bs q.row q.operand ≡ true) c.pin-item.is (sym w.in-Some.ensures.stray) in
          record {
            any = ap (λ (o : Option Place). is_some o) w.first-is ∙ sym (any_found (λ (q : DrawnPin). is_stray_operand bs q.row q.operand) xs i x h t);
            first = rw (w.first-is, w.or_earlier.ensures) (item_found (λ q r c. IsStrayPinAt bs q r c) xs i x x c.loop-pin.first w.in-Some.place h c.pin-item.is before.first w.in-Some.ensures.first);
          }
      | in_default w ↦
          let t = subst (λ (q : DrawnPin). is_stray_operand bs q.row q.operand ≡ false) c.pin-item.is (sym w.in_default.ensures.stray) in
          record {
            any = ap (λ (o : Option Place). is_some o) w.first-is ∙ before.any ∙ sym (any_passed (λ (q : DrawnPin). is_stray_operand bs q.row q.operand) xs i x h t);
            first = rw w.first-is (item_passed (λ q r c. IsStrayPinAt bs q r c) xs i x x c.loop-pin.first h c.pin-item.is before.first w.in_default.ensures.first);
          }
    ]

pub returns-clause-first : goal.returns-clause-first
returns-clause-first c =
    all_items (λ q r k. IsStrayPinAt (outlines c.args.self.now) q r k) c.as_slice-pin-items.result.now c.args.outline.now.pins c.loop-pin.pin-index c.loop-pin.first c.loop-pin-test.false c.as_slice-pin-items.ensures c.loop-pin.invariant.first
