-- The boxes are whole, and stand on rows of the drawing.
use Rattle.std.proofs.Common.{ℕ, zero, suc, ◌+◌, ◌-◌, ◌<◌, ◌≤◌, ◌≡◌, ◌≢◌, Bool, true, false, List, [], length, get_or, Option, Some, None, refl, sym, ap, subst, arith, inl, inr}
use Rattle.std.specs.List.{All}
use Rattle.std.specs.List.Sorted.{IsNonDecreasingBy}
use Rattle.std.proofs.lemmas.Bool.{and_parts, eqb-true, cases_lt}
use Rattle.std.proofs.lemmas.List.{get_or_past}
use Rattle.std.proofs.lemmas.List.Elements.{All-nil, All-cons, All-append, All-weaker}
use Rattle.std.proofs.lemmas.Option.{none-some, cond_some, slice_get_within, get_or_from_slice_get}
use Rattle.std_blocks.specs.declared.block_type.BlockType.{BlockType}
use Rattle.drawings.specs.declared.drawn_box.DrawnPin.{DrawnPin}
use Rattle.ladder_rows.specs.declared.boxes.outline.Outline.{Outline}
use Rattle.ladder_rows.specs.Rows.{Rows, char_at, height, width, upto}
use Rattle.ladder_rows.specs.Boxes.{begins_box, outline_at, outline_with, block_in, pins_of_rows, bottom_row, top_end, is_edge, option_list, box_at, row_outlines, outlines}
use Rattle.ladder_rows.specs.Laws.{AreBoxesWhole}
use Rattle.ladder_rows.specs.Steps.RowBoxes.{row_of_pin, IsInRows, AreInRows}
use Rattle.lists.proofs.Longest.{row-narrow}
use Rattle.ladder_rows.proofs.Outlines.PinRows.{IsFromTo, pins_of_rows_from, pins_of_rows_rising}

-- the box o begins at (r, c) of the rows
record IsOutlineAt (d : Rows) (r c : ℕ) (o : Outline) : Type 0 where
  top : o.top ≡ r
  left : o.left ≡ c
  high : r < o.bottom
  wide : c < o.right
  corner : char_at d o.bottom o.right ≡ 43
  pins : All (IsFromTo (o.top + 1) o.bottom) o.pins
  by_row : IsNonDecreasingBy row_of_pin o.pins

outline_with_parts : (d : Rows) (r c bottom e : ℕ) (block : Option BlockType) (pins : Option (List DrawnPin)) (o : Outline)
    → outline_with d r c bottom e block pins ≡ Some o → r < bottom → c < e
    → ((ps : List DrawnPin) → pins ≡ Some ps → All (IsFromTo (r + 1) bottom) ps × IsNonDecreasingBy row_of_pin ps) → IsOutlineAt d r c o
outline_with_parts d r c bottom e None pins o q h w f = absurd (none-some o q)
outline_with_parts d r c bottom e (Some block) None o q h w f = absurd (none-some o q)
outline_with_parts d r c bottom e (Some block) (Some pins) o q h w f =
    let s = cond_some (is_edge d c e bottom) _ o q in
    let t = s.1 in
    let down : o.bottom ≡ bottom = ap (λ (b : Outline). b.bottom) (sym t) in
    let across : o.right ≡ e = ap (λ (b : Outline). b.right) (sym t) in
    record {
      top = ap (λ (b : Outline). b.top) (sym t);
      left = ap (λ (b : Outline). b.left) (sym t);
      high = omega arith;
      wide = omega arith;
      corner = rw (down, across) (eqb-true _ _ (and_parts _ _ s.0).1);
      pins = subst (λ (b : Outline). All (IsFromTo (b.top + 1) b.bottom) b.pins) t (f pins refl).0;
      by_row = subst (λ (b : Outline). IsNonDecreasingBy row_of_pin b.pins) t (f pins refl).1;
    }

elim_some_of : {A : Type 0} (b : Bool) (o : Option A) (x : A) → elim b [ true ↦ o | false ↦ None ] ≡ Some x → o ≡ Some x
elim_some_of true o x e = e
elim_some_of false o x e = absurd (none-some x e)

inner_of : (r b : ℕ) (ps : List DrawnPin) → All (IsFromTo (r + 2) (r + 2 + (b - (r + 2)))) ps → All (IsFromTo (r + 1) b) ps
inner_of r b ps h = All-weaker (IsFromTo (r + 2) (r + 2 + (b - (r + 2)))) (IsFromTo (r + 1) b) (λ p w. (omega (arith, w.0), omega (arith, w.0, w.1))) ps h

inner_pins : (d : Rows) (r c : ℕ) (ps : List DrawnPin) → pins_of_rows d c (top_end d r c) (r + 2) (bottom_row d r c - (r + 2)) ≡ Some ps
    → All (IsFromTo (r + 1) (bottom_row d r c)) ps
inner_pins d r c ps e = inner_of r (bottom_row d r c) ps (pins_of_rows_from d c (top_end d r c) (r + 2) (bottom_row d r c - (r + 2)) ps e)

outline_parts : (d : Rows) (r c : ℕ) (o : Outline) → box_at d r c ≡ Some o → IsOutlineAt d r c o
unfolding box_at outline_at
outline_parts d r c o e =
    outline_with_parts d r c (bottom_row d r c) (top_end d r c) (block_in d r c)
    (pins_of_rows d c (top_end d r c) (r + 2) (bottom_row d r c - (r + 2))) o
    (elim_some_of (begins_box d r c) (outline_at d r c) o e) (omega arith) (omega arith)
    (λ ps h. (inner_pins d r c ps h, pins_of_rows_rising d c (top_end d r c) (r + 2) (bottom_row d r c - (r + 2)) ps h))

-- a place with a character that is no blank is inside
drawn_within : (d : Rows) (r c : ℕ) → char_at d r c ≢ 32 → (r < length d) × (c ≤ width d)
unfolding char_at
drawn_within d r c h = (
  elim (cases_lt r (length d)) [
    | inl l ↦ l
    | inr l ↦ absurd (h (ap (λ (row : List ℕ). get_or row c 32) (get_or_past d r [] l)))
  ],
  elim (cases_lt c (length (get_or d r []))) [
    | inl l ↦ row-narrow d r c l
    | inr l ↦ absurd (h (get_or_past (get_or d r []) c 32 l))
  ],
)

pub boxes_whole : AreBoxesWhole
boxes_whole d r c o e =
    let w = outline_parts d r c o e in
    let corner = drawn_within d o.bottom o.right (λ q. omega (arith, q, w.corner)) in
    record {
      top = w.top;
      left = w.left;
      high = w.high;
      wide = w.wide;
      row_within = omega (arith, corner.0);
      column_within = corner.1;
      pins = All-weaker (IsFromTo (o.top + 1) o.bottom) (λ q. (r < q.row) × (q.row < o.bottom)) (λ q v. (omega (arith, w.top, v.0), v.1)) o.pins w.pins;
    }

on_rows : (d : Rows) (r c : ℕ) (o : Outline) → 0 < r → box_at d r c ≡ Some o → IsInRows (height d) o
on_rows d r c o h e =
    let w = outline_parts d r c o e in
    let whole = boxes_whole d r c o e in
    record {
      above = omega (arith, h, w.top);
      high = omega (arith, w.top, w.high);
      within = whole.row_within;
      pins = All-weaker (IsFromTo (o.top + 1) o.bottom) (λ q. (o.top ≤ q.row) × (q.row ≤ o.bottom)) (λ q v. (omega (arith, v.0), omega (arith, v.1))) o.pins w.pins;
      by_row = w.by_row;
    }

option_all : {A : Type 0} (P : A → Type 0) (o : Option A) → ((x : A) → o ≡ Some x → P x) → All P (option_list o)
option_all P None h = All-nil P
option_all P (Some x) h = All-cons P x [] (h x refl) (All-nil P)

upto_all : {A : Type 0} (P : A → Type 0) (f : ℕ → List A) → ((i : ℕ) → 0 < i → All P (f i)) → (n : ℕ) → All P (upto n f)
upto_all P f h zero = All-nil P
upto_all P f h (suc n) = All-append P (upto n f) (f (suc n)) (upto_all P f h n) (h (suc n) (omega arith))

all_on_rows : (d : Rows) → All (IsInRows (height d)) (outlines d)
unfolding outlines row_outlines
all_on_rows d =
    upto_all (IsInRows (height d)) (row_outlines d)
    (λ r h. upto_all (IsInRows (height d)) (λ c. option_list (box_at d r c)) (λ c l. option_all (IsInRows (height d)) (box_at d r c) (λ o e. on_rows d r c o h e)) (width d))
    (height d)

pub boxes_in_rows : (d : Rows) → AreInRows (height d) (outlines d)
boxes_in_rows d = record {
  each = λ k b e. subst (IsInRows (height d)) (get_or_from_slice_get (outlines d) k b b e) (all_on_rows d k b (slice_get_within (outlines d) k b e));
}
