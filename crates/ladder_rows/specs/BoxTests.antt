-- What is asked of a box and its pins.
use Rattle.std.specs.Prelude.{ℕ, ◌+◌, ◌-◌, List, ◌==◌, length, Bool, true, false, ◌&&◌, not, nat_lt, nat_le, Option, Some, None}
use Rattle.std.specs.List.{list_any}
use Rattle.drawings.specs.declared.drawn_box.Operand.{Operand}
use Rattle.drawings.specs.declared.drawn_box.DrawnPin.{DrawnPin}
use Rattle.drawings.specs.declared.drawn_box.Side.{Side}
use Rattle.drawings.specs.declared.drawn_box.Side.TheVariants as side
use Rattle.ladder_rows.specs.declared.span.Span.{Span}
use Rattle.ladder_rows.specs.declared.boxes.outline.Outline.{Outline}
use Rattle.ladder_rows.specs.Boxes.{covers, meets_row}

-- the columns of the top side of a box
abbrev pub top_span : Outline → Span
top_span b = record { first = b.left; end = b.right + 1 }

-- two boxes have a place in common
abbrev pub share_place : Outline → Outline → Bool
share_place a b = nat_le a.top b.bottom && nat_le b.top a.bottom && nat_le a.left b.right && nat_le b.left a.right

-- whether the operand of a pin, or a dash on its way there, is at (r, c)
abbrev pub operand_reaches : Outline → ℕ → ℕ → Option Operand → Side → Bool
operand_reaches b r c None s = false
operand_reaches b r c (Some o) side.Left = nat_le o.column c && nat_lt c b.left
operand_reaches b r c (Some o) side.Right = nat_lt b.right c && nat_lt c (o.column + length o.text)

-- the same for a pin, whose row is r
abbrev pub pin_reaches : Outline → ℕ → ℕ → DrawnPin → Bool
pin_reaches b r c q = q.row == r && operand_reaches b r c q.operand q.side

-- the same of all pins of a box
abbrev pub box_reaches : ℕ → ℕ → Outline → Bool
box_reaches r c b = meets_row r b && list_any (pin_reaches b r c) b.pins

-- two sides are the same one
abbrev pub same_side : Side → Side → Bool
same_side side.Left side.Left = true
same_side side.Left side.Right = false
same_side side.Right side.Left = false
same_side side.Right side.Right = true

-- a pin on a side and a row
abbrev pub pin_on : Side → ℕ → DrawnPin → Bool
pin_on s r q = q.row == r && same_side q.side s

-- (r, c) is on the right side of a box on the row of a right pin
abbrev pub right_pin_at : ℕ → ℕ → Outline → Bool
right_pin_at r c b = meets_row r b && c == b.right && list_any (pin_on side.Right r) b.pins

-- the place on the right of (r, c) is the left side of a box, on a row without a left pin
abbrev pub blind_right_of : ℕ → ℕ → Outline → Bool
blind_right_of r c b = covers r (c + 1) b && c + 1 == b.left && not (list_any (pin_on side.Left r) b.pins)

-- the place on the left of (r, c) is the right side of a box, on a row without a right pin
abbrev pub blind_left_of : ℕ → ℕ → Outline → Bool
blind_left_of r c b =
    covers r (c - 1) b && nat_lt 0 c && c - 1 == b.right && not (list_any (pin_on side.Right r) b.pins)

-- whether the operand of a pin on side s begins at (r, c)
abbrev pub takes_word : Side → ℕ → ℕ → DrawnPin → Bool
takes_word s r c q = pin_on s r q && begins_at c q.operand where
  begins_at : ℕ → Option Operand → Bool
  begins_at c None = false
  begins_at c (Some o) = o.column == c

-- whether the operand of some pin on side s begins at (r, c)
unfoldable pub some_takes_word : List Outline → Side → ℕ → ℕ → Bool
some_takes_word bs s r c = list_any (λ b. list_any (takes_word s r c) b.pins) bs
