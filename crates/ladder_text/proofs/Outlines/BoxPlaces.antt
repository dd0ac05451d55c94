-- The boxes stand where they say, are whole, and share no place.
use Rattle.std.proofs.Common.{ℕ, ◌<◌, ◌≤◌, ◌≡◌, Bool, true, not, ◌||◌, List, get_or, Some, IsTrue, refl, sym, ap, ◌∙◌, arith, leb, inl, inr}
use Rattle.std.specs.List.{slice_get, list_all, All}
use Rattle.std.proofs.lemmas.Bool.{and_parts, and_from, or_cases, not-true, both_ways, true_from_ne_false, eqb-true, le-leb}
use Rattle.std.proofs.lemmas.Option.{same_Some, slice_get_within, get_or_from_slice_get}
use Rattle.std.proofs.lemmas.List.Elements.{All-weaker}
use Rattle.std.proofs.lemmas.List.Folds.{list_any_at, list_all_at}
use Rattle.lists.specs.Rising.{IsAlikeOnce}
use Rattle.drawings.specs.declared.mark.Mark.TheVariants.{BoxPart}
use Rattle.drawings.specs.declared.drawn_box.DrawnBox.{DrawnBox}
use Rattle.drawings.specs.Picture.{mark_at, IsBoxPlace, IsWhole}
use Rattle.ladder_rows.specs.declared.boxes.outline.Outline.{Outline}
use Rattle.ladder_rows.specs.Rows.{Rows, height, width}
use Rattle.ladder_rows.specs.Boxes.{box_at, row_outlines, outlines, covers}
use Rattle.ladder_rows.specs.BoxTests.{share_place}
use Rattle.ladder_rows.specs.Laws.{AreBoxesWhole}
use Rattle.ladder_text.specs.Places.{Layout, in_box, mark, layout_of}
use Rattle.ladder_text.specs.Names.{drawn_boxes}
use Rattle.ladder_text.specs.Faults.{boxes_apart, is_apart, same_corner}
use Rattle.ladder_text.specs.Picture.{picture_of}
use Rattle.ladder_text.proofs.Rows.ListedItems.{IsPlaced, found_item, found_once, map_item}
use Rattle.ladder_text.proofs.Marks.PictureMarks.{mark_at-inside}

pub outlines_placed : AreBoxesWhole → (d : Rows) → IsPlaced (λ (o : Outline). o.top) (λ (o : Outline). o.left) (box_at d)
outlines_placed whole d r c o e = let w = whole d r c o e in (w.top, w.left)

outlines_once : AreBoxesWhole → (d : Rows) → IsAlikeOnce (λ (a : Outline) (b : Outline). (a.top ≡ b.top) × (a.left ≡ b.left)) (outlines d)
unfolding outlines row_outlines
outlines_once whole d = found_once (λ (o : Outline). o.top) (λ (o : Outline). o.left) (box_at d) (outlines_placed whole d) (height d) (width d)

-- a box stands where o says, inside the rows and columns
pub record IsBoxThere (d : Rows) (o : Outline) : Type 0 where
  pub row_above : 0 < o.top
  pub column_above : 0 < o.left
  pub high : o.top < o.bottom
  pub wide : o.left < o.right
  pub row_within : o.bottom ≤ height d
  pub column_within : o.right ≤ width d
  pub pins : All (λ q. (o.top < q.row) × (q.row < o.bottom)) o.pins

pub box_there : AreBoxesWhole → (d : Rows) (k : ℕ) (o : Outline) → slice_get (outlines d) k ≡ Some o → IsBoxThere d o
unfolding outlines row_outlines
box_there whole d k o e =
    let i = found_item (box_at d) (height d) (width d) k o e in
    let w = whole d i.row i.column o i.is in
    record {
      row_above = omega (arith, w.top, i.row_above);
      column_above = omega (arith, w.left, i.column_above);
      high = omega (arith, w.top, w.high);
      wide = omega (arith, w.left, w.wide);
      row_within = w.row_within;
      column_within = w.column_within;
      pins = All-weaker (λ q. (i.row < q.row) × (q.row < o.bottom)) (λ q. (o.top < q.row) × (q.row < o.bottom)) (λ q v. (omega (arith, w.top, v.0), v.1)) o.pins w.pins;
    }

-- (r, c) is a place of the box o
abbrev IsOutlinePlace : Outline → ℕ → ℕ → Type 0
IsOutlinePlace o r c = (o.top ≤ r) × (r ≤ o.bottom) × (o.left ≤ c) × (c ≤ o.right)

covered : (o : Outline) (r c : ℕ) → IsOutlinePlace o r c → covers r c o ≡ true
covered o r c s = and_from _ _ (and_from _ _ (and_from _ _ (le-leb _ _ s.0) (le-leb _ _ s.1)) (le-leb _ _ s.2)) (le-leb _ _ s.3)

in_box_of : (p : Layout) (k : ℕ) (o : Outline) (r c : ℕ) → slice_get p.boxes k ≡ Some o → IsOutlinePlace o r c → in_box p r c ≡ true
in_box_of p k o r c e s =
    let at : get_or p.boxes k o ≡ o = get_or_from_slice_get p.boxes k o o e in
    list_any_at (covers r c) p.boxes k o (slice_get_within p.boxes k o e) (rw at (covered o r c s))

mark-box : (p : Layout) (r c : ℕ) → in_box p r c ≡ true → mark p r c ≡ BoxPart
unfolding mark
mark-box p r c e = rw e refl

list_all_item : {A : Type 0} (f : A → Bool) (xs : List A) (k : ℕ) (x : A) → slice_get xs k ≡ Some x → list_all f xs ≡ true → f x ≡ true
list_all_item f xs k x e h =
    let at : get_or xs k x ≡ x = get_or_from_slice_get xs k x x e in
    true_from_ne_false (f x) (λ q. both_ways (list_all f xs) (list_all_at f xs k x (slice_get_within xs k x e) (rw at q)) h)

sharing : (a b : Outline) (r c : ℕ) → IsOutlinePlace a r c → IsOutlinePlace b r c → share_place a b ≡ true
sharing a b r c s t =
    let high : leb a.top b.bottom ≡ true = le-leb a.top b.bottom (omega (arith, s.0, t.1)) in
    let low : leb b.top a.bottom ≡ true = le-leb b.top a.bottom (omega (arith, t.0, s.1)) in
    let left : leb a.left b.right ≡ true = le-leb a.left b.right (omega (arith, s.2, t.3)) in
    let right : leb b.left a.right ≡ true = le-leb b.left a.right (omega (arith, t.2, s.3)) in
    and_from _ _ (and_from _ _ (and_from _ _ high low) left) right

same_corner_of : (a b : Outline) (r c : ℕ) → (same_corner a b || not (share_place a b)) ≡ true → IsOutlinePlace a r c → IsOutlinePlace b r c → (a.top ≡ b.top) × (a.left ≡ b.left)
same_corner_of a b r c e s t = elim (or_cases _ _ e) [
  | inl h ↦ let w = and_parts _ _ h in (eqb-true _ _ w.0, eqb-true _ _ w.1)
  | inr h ↦ absurd (both_ways (share_place a b) (not-true (share_place a b) h) (sharing a b r c s t))
]

outlines_sharing : AreBoxesWhole → (d : Rows) → IsTrue (boxes_apart (layout_of d)) → (j k : ℕ) (a b : Outline) → slice_get (outlines d) j ≡ Some a → slice_get (outlines d) k ≡ Some b
    → (r c : ℕ) → IsOutlinePlace a r c → IsOutlinePlace b r c → j ≡ k
unfolding layout_of
outlines_sharing whole d apart j k a b x y r c s t =
    let w = list_all_item (is_apart (outlines d)) (outlines d) j a x apart in
    let v = list_all_item (λ (b : Outline). same_corner a b || not (share_place a b)) (outlines d) k b y w in
    outlines_once whole d j k a b x y (same_corner_of a b r c v s t)

-- the outline of a box that is listed
pub record IsOfOutline (d : Rows) (k : ℕ) (x : DrawnBox) : Type 0 where
  pub outline : Outline
  pub listed : slice_get (outlines d) k ≡ Some outline
  pub top : x.top ≡ outline.top
  pub left : x.left ≡ outline.left
  pub bottom : x.bottom ≡ outline.bottom
  pub right : x.right ≡ outline.right
  pub pins : x.pins ≡ outline.pins

pub drawn_box_item : (d : Rows) (k : ℕ) (x : DrawnBox) → slice_get (drawn_boxes (layout_of d)) k ≡ Some x → IsOfOutline d k x
unfolding drawn_boxes layout_of
drawn_box_item d k x e =
    let w = map_item _ (outlines d) k x e in
    let q = same_Some _ x w.2 in
    record {
      outline = w.0;
      listed = w.1;
      top = ap (λ (b : DrawnBox). b.top) (sym q);
      left = ap (λ (b : DrawnBox). b.left) (sym q);
      bottom = ap (λ (b : DrawnBox). b.bottom) (sym q);
      right = ap (λ (b : DrawnBox). b.right) (sym q);
      pins = ap (λ (b : DrawnBox). b.pins) (sym q);
    }

outline_place : (d : Rows) (k : ℕ) (x : DrawnBox) (w : IsOfOutline d k x) (r c : ℕ) → IsBoxPlace x r c → IsOutlinePlace w.outline r c
outline_place d k x w r c s = (omega (arith, w.top, s.0), omega (arith, w.bottom, s.1), omega (arith, w.left, s.2), omega (arith, w.right, s.3))

pub mark_at-box : AreBoxesWhole → (line : ℕ) (d : Rows) (k : ℕ) (x : DrawnBox) → slice_get (drawn_boxes (layout_of d)) k ≡ Some x
    → (r c : ℕ) → IsBoxPlace x r c → mark_at (picture_of line (layout_of d)) r c ≡ BoxPart
unfolding layout_of
mark_at-box whole line d k x e r c s =
    let w = drawn_box_item d k x e in
    let i = box_there whole d k w.outline w.listed in
    let t = outline_place d k x w r c s in
    mark_at-inside line (layout_of d) r c (omega (arith, i.row_above, t.0)) (omega (arith, i.row_within, t.1)) (omega (arith, i.column_above, t.2)) (omega (arith, i.column_within, t.3))
    ∙ mark-box (layout_of d) r c (in_box_of (layout_of d) k w.outline r c w.listed t)

pub boxes_sharing : AreBoxesWhole → (d : Rows) → IsTrue (boxes_apart (layout_of d)) → (j k : ℕ) (x y : DrawnBox)
    → slice_get (drawn_boxes (layout_of d)) j ≡ Some x → slice_get (drawn_boxes (layout_of d)) k ≡ Some y
    → (r c : ℕ) → IsBoxPlace x r c → IsBoxPlace y r c → j ≡ k
boxes_sharing whole d apart j k x y a b r c s t =
    let v = drawn_box_item d j x a in
    let w = drawn_box_item d k y b in
    outlines_sharing whole d apart j k v.outline w.outline v.listed w.listed r c (outline_place d j x v r c s) (outline_place d k y w r c t)

pub box_whole : AreBoxesWhole → (d : Rows) (k : ℕ) (x : DrawnBox) → slice_get (drawn_boxes (layout_of d)) k ≡ Some x → IsWhole x
box_whole whole d k x e =
    let w = drawn_box_item d k x e in
    let i = box_there whole d k w.outline w.listed in
    record {
      wide = omega (arith, w.left, w.right, i.wide);
      high = omega (arith, w.top, w.bottom, i.high);
      pins = rw w.pins (All-weaker (λ p. (w.outline.top < p.row) × (p.row < w.outline.bottom)) (λ p. (x.top < p.row) × (p.row < x.bottom))
          (λ p v. (omega (arith, w.top, v.0), omega (arith, w.bottom, v.1))) w.outline.pins i.pins);
    }
