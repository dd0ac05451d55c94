use Rattle.std.proofs.Common.{◌≡◌, ◌<◌, ◌≤◌, List, length, get_or, true, false, sym, ◌∙◌, ap, subst, refl, Option}
use Rattle.std.specs.Option.{is_some}
use Rattle.ladder_rows.specs.declared.boxes.outline.Outline.{Outline}
use Rattle.drawings.specs.declared.place.Place.{Place}
use Rattle.ladder_rows.specs.Boxes.{outlines}
use Rattle.ladder_text.specs.Faults.{has_stray_pin}
use Rattle.ladder_text.specs.FirstFault.{IsStrayBoxAt}
use Rattle.ladder_text.proofs.Faults.FirstPlaces.{item_found, item_passed, any_found, any_passed, all_items}
use Rattle.ladder_text.proofs.places.marked_grid.MarkedGrid.first_stray_operand.Goals as goal
use Rattle.ladder_text.proofs.places.marked_grid.MarkedGrid.first_stray_operand.Goals.{in-Some, in_default}

pub loop-outline-preserved : goal.loop-outline-preserved
loop-outline-preserved c =
    let bs = outlines c.args.self.now in
    let i = c.loop-outline.outline-index in
    let is = c.boxes-outline-items.ensures in
    let h = subst (λ (xs : List Outline). i < length xs) is c.loop-outline-test.true in
    let x = c.outline-item.result in
    let own : x ≡ get_or bs i x = subst (λ (xs : List Outline). x ≡ get_or xs i x) is c.outline-item.is in
    let before = c.loop-outline.invariant in
    elim c.match-first_stray_pin.branch [
      | in-Some w ↦
          let t = subst (λ (b : Outline). has_stray_pin bs b ≡ true) own (sym w.in-Some.ensures.stray) in
          record {
            any = ap (λ (o : Option Place). is_some o) w.first-is ∙ sym (any_found (has_stray_pin bs) bs i x h t);
            first = rw (w.first-is, w.or_earlier.ensures) (item_found (λ b r c. IsStrayBoxAt bs b r c) bs i x x c.loop-outline.first w.in-Some.place h own before.first w.in-Some.ensures.first);
          }
      | in_default w ↦
          let t = subst (λ (b : Outline). has_stray_pin bs b ≡ false) own (sym w.in_default.ensures.stray) in
          record {
            any = ap (λ (o : Option Place). is_some o) w.first-is ∙ before.any ∙ sym (any_passed (has_stray_pin bs) bs i x h t);
            first = rw w.first-is (item_passed (λ b r c. IsStrayBoxAt bs b r c) bs i x x c.loop-outline.first h own before.first w.in_default.ensures.first);
          }
    ]

pub returns-clause-first : goal.returns-clause-first
returns-clause-first c =
    let bs = outlines c.args.self.now in
    all_items (λ b r k. IsStrayBoxAt bs b r k) bs bs c.loop-outline.outline-index c.loop-outline.first
    (subst (λ (xs : List Outline). length xs ≤ c.loop-outline.outline-index) c.boxes-outline-items.ensures c.loop-outline-test.false) refl c.loop-outline.invariant.first
