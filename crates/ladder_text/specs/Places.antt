-- What stands at each place.
use Rattle.std.specs.Prelude.{ℕ, ◌+◌, ◌-◌, List, ◌==◌, if◌then◌else◌, Bool, true, false, ◌&&◌, ◌||◌, not, nat_lt, Option, None, is_some}
use Rattle.std.specs.List.{list_all, list_any, range_with_len}
use Rattle.drawings.specs.declared.mark.Mark.{Mark}
use Rattle.drawings.specs.declared.mark.Mark.TheVariants.{Blank, Rail, Wire, Join, Upright, ContactPart, CoilPart, BoxPart}
use Rattle.drawings.specs.declared.contact.ContactKind.{ContactKind}
use Rattle.drawings.specs.declared.coil.CoilKind.{CoilKind}
use Rattle.drawings.specs.declared.place.Place.{Place}
use Rattle.ladder_rows.specs.declared.boxes.outline.Outline.{Outline}
use Rattle.ladder_rows.specs.Rows.{Rows, char_at, height, width, is_rail_char}
use Rattle.ladder_text.specs.SymbolKinds.{contact_kind, coil_kind}
use Rattle.ladder_rows.specs.Boxes.{outlines, covers, left_column}
use Rattle.ladder_rows.specs.BoxTests.{box_reaches, right_pin_at}

-- the rows of a text with what is found first: the left rail's column and the boxes
pub record Layout : Type 0 where
  pub rows : Rows
  pub left : ℕ
  pub boxes : List Outline

-- p comes before q, by row and then column
abbrev pub is_before : Place → Place → Bool
is_before p q = nat_lt p.row q.row || (p.row == q.row && nat_lt p.column q.column)

-- (r, c) is a place of a box
abbrev pub in_box : Layout → ℕ → ℕ → Bool
in_box p r c = list_any (covers r c) p.boxes

-- none of the three places from (r, c) on is in a box
abbrev pub are_three_free : Layout → ℕ → ℕ → Bool
are_three_free p r c = not (in_box p r c || in_box p r (c + 1) || in_box p r (c + 2))

-- the kind of the contact whose first place is (r, c), if there is one; none of its places is in a box
unfoldable pub contact_at : Layout → ℕ → ℕ → Option ContactKind
contact_at p r c =
    if (char_at p.rows r (c - 1) == 45 || char_at p.rows r (c - 1) == 43)
    && char_at p.rows r c == 124 && char_at p.rows r (c + 2) == 124 && are_three_free p r c
    then contact_kind (char_at p.rows r (c + 1)) else None

-- the same for a coil
unfoldable pub coil_at : Layout → ℕ → ℕ → Option CoilKind
coil_at p r c =
    if char_at p.rows r c == 40 && char_at p.rows r (c + 2) == 41 && are_three_free p r c
    then coil_kind (char_at p.rows r (c + 1)) else None

-- whether f finds a symbol whose three places contain (r, c)
abbrev pub within_three : {A : Type 0} → (ℕ → ℕ → Option A) → ℕ → ℕ → Bool
within_three f r c = is_some (f r c) || is_some (f r (c - 1)) || is_some (f r (c - 2))

-- (r, c) is a place of a contact
abbrev pub in_contact : Layout → ℕ → ℕ → Bool
in_contact p = within_three (contact_at p)

-- (r, c) is a place of a coil
abbrev pub in_coil : Layout → ℕ → ℕ → Bool
in_coil p = within_three (coil_at p)

-- whether (r, c) is in a box or a symbol
abbrev pub is_taken : Layout → ℕ → ℕ → Bool
is_taken p r c = in_box p r c || in_contact p r c || in_coil p r c

-- what stands in the last column of row r is a blank, or `|` or `+` outside boxes and symbols
unfoldable pub may_be_rail : Layout → ℕ → Bool
may_be_rail p r =
    let c = char_at p.rows r (width p.rows) in c == 32 || (is_rail_char c && not (is_taken p r (width p.rows)))

-- the greatest column is a right rail
unfoldable pub has_right_rail : Layout → Bool
has_right_rail p = nat_lt p.left (width p.rows) && list_all (may_be_rail p) (range_with_len 1 (height p.rows))

-- the column c has a rail
abbrev pub is_rail_column : Layout → ℕ → Bool
is_rail_column p c = c == p.left || (c == width p.rows && has_right_rail p)

-- the operand of some pin, or a dash on its way there, is at (r, c)
abbrev pub in_operand : Layout → ℕ → ℕ → Bool
in_operand p r c = list_any (box_reaches r c) p.boxes

-- what `-`, `+` and `|` mean outside boxes, symbols and rails
abbrev pub line_mark : ℕ → Bool → Mark
line_mark c operand =
    if c == 43 then Join
    else (if c == 124 then Upright
    else (if c == 45 && not operand then Wire
    else Blank))

-- what stands at (r, c)
unfoldable pub mark : Layout → ℕ → ℕ → Mark
mark p r c =
    if in_box p r c then BoxPart
    else (if in_contact p r c then ContactPart
    else (if in_coil p r c then CoilPart
    else (if is_rail_column p c && is_rail_char (char_at p.rows r c) then Rail
    else line_mark (char_at p.rows r c) (in_operand p r c))))

-- it is a Wire
abbrev pub is_wire : Mark → Bool
is_wire Wire = true
is_wire _ = false

-- it is a Join
abbrev pub is_join : Mark → Bool
is_join Join = true
is_join _ = false

-- it is an Upright place
abbrev pub is_upright : Mark → Bool
is_upright Upright = true
is_upright _ = false

-- it is a Rail
abbrev pub is_rail : Mark → Bool
is_rail Rail = true
is_rail _ = false

-- it belongs to a box
abbrev pub is_box_part : Mark → Bool
is_box_part BoxPart = true
is_box_part _ = false

-- it belongs to a contact or a coil
abbrev pub is_symbol : Mark → Bool
is_symbol ContactPart = true
is_symbol CoilPart = true
is_symbol _ = false

-- a place of an upright
abbrev pub is_vertical : Mark → Bool
is_vertical m = is_join m || is_upright m

-- a place through which state runs from left to right
abbrev pub is_line : Mark → Bool
is_line m = is_wire m || is_join m || is_symbol m

-- the same for some box
abbrev pub is_right_pin : List Outline → ℕ → ℕ → Bool
is_right_pin bs r c = list_any (right_pin_at r c) bs

-- state may leave (r, c) to its right
unfoldable pub gives : Layout → ℕ → ℕ → Bool
gives p r c =
    let m = mark p r c in
    (is_rail m && c == p.left) || is_line m || is_right_pin p.boxes r c

-- the layout of some rows
unfoldable pub layout_of : Rows → Layout
layout_of d = record { rows = d; left = left_column d; boxes = outlines d }
