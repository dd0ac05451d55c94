-- Boxes stand by row and then column of their corners.
use Rattle.std.proofs.Common.{ℕ, ◌<◌, ◌≡◌, arith, ◌⊎◌, inl, inr}
use Rattle.lists.specs.Rising.{IsRising}
use Rattle.drawings.specs.declared.drawn_box.DrawnBox.{DrawnBox}
use Rattle.ladder_rows.specs.declared.boxes.outline.Outline.{Outline}
use Rattle.ladder_rows.specs.Rows.{Rows, height, width}
use Rattle.ladder_rows.specs.Boxes.{box_at, row_outlines, outlines}
use Rattle.ladder_rows.specs.Laws.{AreBoxesWhole}
use Rattle.ladder_text.specs.Places.{layout_of}
use Rattle.ladder_text.specs.Names.{drawn_boxes}
use Rattle.ladder_text.proofs.Rows.ListedItems.{IsBefore, found_rising}
use Rattle.ladder_text.proofs.Outlines.BoxPlaces.{outlines_placed, drawn_box_item}

pub outlines_rising : AreBoxesWhole → (d : Rows) → IsRising (IsBefore (λ (o : Outline). o.top) (λ (o : Outline). o.left)) (outlines d)
unfolding outlines row_outlines
outlines_rising whole d = found_rising (λ (o : Outline). o.top) (λ (o : Outline). o.left) (box_at d) (outlines_placed whole d) (height d) (width d)

corners_before : (a b c e p q r s : ℕ) → p ≡ a → q ≡ b → r ≡ c → s ≡ e → (a < c) ⊎ ((a ≡ c) × (b < e)) → (p < r) ⊎ ((p ≡ r) × (q < s))
corners_before a b c e p q r s h i j k (inl l) = inl (omega arith)
corners_before a b c e p q r s h i j k (inr w) = inr (omega (arith, w.0), omega (arith, w.1))

pub boxes_rising_of : AreBoxesWhole → (d : Rows) → IsRising (IsBefore (λ (b : DrawnBox). b.top) (λ (b : DrawnBox). b.left)) (drawn_boxes (layout_of d))
boxes_rising_of whole d j k x y h a b =
    let v = drawn_box_item d j x a in
    let w = drawn_box_item d k y b in
    corners_before v.outline.top v.outline.left w.outline.top w.outline.left x.top x.left y.top y.left v.top v.left w.top w.left
    (outlines_rising whole d j k v.outline w.outline h v.listed w.listed)
