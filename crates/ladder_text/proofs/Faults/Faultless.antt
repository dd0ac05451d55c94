-- A text without a fault is well drawn.
use Rattle.std.proofs.Common.{ℕ, ◌<◌, ◌≡◌, List, Option, Some, None, refl, arith, Bool, true, false, IsTrue, IsFalse, inl, inr}
use Rattle.std.specs.List.{list_any}
use Rattle.std.proofs.lemmas.Bool.{cases_lt, both_ways, false_from_ne_true}
use Rattle.std.proofs.lemmas.List.Folds.{Any-from_list_any}
use Rattle.ladder_text.specs.declared.draw_fault.DrawFaultKind.TheVariants as kind
use Rattle.drawings.specs.declared.drawn_box.DrawnPin.{DrawnPin}
use Rattle.drawings.specs.declared.drawn_box.Operand.{Operand}
use Rattle.ladder_rows.specs.declared.boxes.outline.Outline.{Outline}
use Rattle.ladder_text.specs.declared.places.place_fault.PlaceFault.{PlaceFault}
use Rattle.ladder_text.specs.declared.places.place_fault.PlaceFault.TheVariants.{BadMark, Crossing, NoSource}
use Rattle.ladder_rows.specs.declared.span.Span.{Span}
use Rattle.ladder_rows.specs.Rows.{Rows, width}
use Rattle.ladder_rows.specs.Laws.{AreRowsWithin}
use Rattle.ladder_rows.specs.Boxes.{left_column, outlines}
use Rattle.ladder_text.specs.Places.{layout_of}
use Rattle.ladder_text.specs.Names.{words, things}
use Rattle.ladder_rows.specs.Faults.{PassesInRows, NowhereInRows, not_ascii, no_left_rail, bad_box}
use Rattle.ladder_text.specs.Faults.{IsWellDrawn, has_fault, boxes_apart, name_missing, stray_name, is_stray_operand, has_stray_pin, has_stray_operand}
use Rattle.ladder_text.specs.FirstFault.{HasNoDrawFault, IsSpanAt, IsStrayPinAt, IsStrayOperandAt, shares_before}
use Rattle.ladder_text.specs.Steps.Search.{IsNone}
use Rattle.ladder_text.proofs.Outlines.BoxOrder.{all_apart}
use Rattle.ladder_text.proofs.Faults.WellDrawn.{well_drawn_checked}

nowhere_of : (d : Rows) (test : ℕ → ℕ → Bool) → IsNone (PassesInRows d test) → NowhereInRows d test
nowhere_of d test none r c h k = false_from_ne_true (test r c) (λ t. none r c (record { in_rows = h; in_columns = k; passes = t }))

no_item : (test : Span → Bool) (xs : List Span) → ((c : ℕ) → IsSpanAt xs test c → ⊥) → IsFalse (list_any test xs)
no_item test xs none = false_from_ne_true (list_any test xs) (λ t. let w = Any-from_list_any test xs t in none w.1.first (w.0, w.1, w.2, w.3, (refl, w.4)))

stray_pin_at : (bs : List Outline) (q : DrawnPin) → is_stray_operand bs q.row q.operand ≡ true → (r c : ℕ) × IsStrayPinAt bs q r c
stray_pin_at bs q t = go q.operand refl t
  where
    go : (o : Option Operand) → q.operand ≡ o → is_stray_operand bs q.row o ≡ true → (r c : ℕ) × IsStrayPinAt bs q r c
    go None e u = absurd (both_ways false refl u)
    go (Some o) e u = (q.row, o.column, record { operand = o; drawn = e; row = refl; column = refl; stray = t })

no_operand : (d : Rows) → IsNone (IsStrayOperandAt (outlines d)) → IsFalse (has_stray_operand (layout_of d))
unfolding has_stray_operand layout_of
no_operand d none = false_from_ne_true (list_any (has_stray_pin (outlines d)) (outlines d)) (λ t.
    let bs = outlines d in
    let w = Any-from_list_any (has_stray_pin bs) bs t in
    let v = Any-from_list_any (λ (q : DrawnPin). is_stray_operand bs q.row q.operand) w.1.pins w.4 in
    let p = stray_pin_at bs v.1 v.4 in
    none p.0 p.1 (w.0, w.1, w.2, w.3, (v.0, v.1, v.2, v.3, p.2)))

apart_of : (d : Rows) → HasNoDrawFault d → IsTrue (boxes_apart (layout_of d))
unfolding layout_of
apart_of d none = all_apart (outlines d) (λ k b h e. false_from_ne_true (shares_before (outlines d) k b) (λ t.
    none kind.BadBox b.top b.left (inr (record { number = k; box = b; listed = e; row = refl; column = refl; shares = t }))))

drawn_of : (d : Rows) → HasNoDrawFault d → 0 < width d
drawn_of d none = elim (cases_lt 0 (width d)) [
  | inl h ↦ h
  | inr h ↦ absurd (none kind.NoLeftRail 1 1 (inl (omega arith, refl, refl)))
]

places_of : (d : Rows) → HasNoDrawFault d → (f : PlaceFault) → NowhereInRows d (has_fault f (layout_of d))
places_of d none BadMark = nowhere_of d (has_fault BadMark (layout_of d)) (none kind.BadMark)
places_of d none Crossing = nowhere_of d (has_fault Crossing (layout_of d)) (none kind.Crossing)
places_of d none NoSource = nowhere_of d (has_fault NoSource (layout_of d)) (none kind.NoSource)

pub well_drawn_of : AreRowsWithin → (d : Rows) → HasNoDrawFault d → IsWellDrawn d
well_drawn_of within d none =
    let limits = within d (none kind.TooLarge) in
    well_drawn_checked d (nowhere_of d (not_ascii d) (none kind.NotAscii)) limits.0 limits.1 (drawn_of d none)
    (λ r h. false_from_ne_true (no_left_rail d r) (λ t. none kind.NoLeftRail r (left_column d) (inr (drawn_of d none, h, refl, t))))
    (nowhere_of d (bad_box d) (λ r c w. none kind.BadBox r c (inl w))) (apart_of d none) (places_of d none)
    (record {
      things_named = λ r h. no_item (name_missing (layout_of d) r) (things (layout_of d) r) (λ c w. none kind.NameMissing r c (h, w));
      no_stray_name = λ r h. no_item (stray_name (layout_of d) r) (words (layout_of d) r) (λ c w. none kind.StrayName r c (inl (h, w)));
    })
    (no_operand d (λ r c w. none kind.StrayName r c (inr w)))
