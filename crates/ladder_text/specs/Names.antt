-- Words, and the symbols and boxes that they name.
use Rattle.std.specs.Prelude.{ℕ, ◌+◌, ◌-◌, List, [], ◌++◌, ◌==◌, if◌then◌else◌, map, Bool, ◌&&◌, ◌||◌, not, nat_lt, Option, Some, None, is_some}
use Rattle.std.specs.List.{filter, find}
use Rattle.ladder_rows.specs.declared.span.Span.{Span}
use Rattle.drawings.specs.Symbols.{Contact, Coil}
use Rattle.drawings.specs.declared.symbol.Symbol.{Symbol}
use Rattle.drawings.specs.declared.drawn_box.DrawnBox.{DrawnBox}
use Rattle.ladder_rows.specs.declared.boxes.outline.Outline.{Outline}
use Rattle.ladder_rows.specs.Rows.{char_at, height, width, run, upto}
use Rattle.words.specs.Chars.{is_word_char}
use Rattle.ladder_rows.specs.Boxes.{cut, option_list}
use Rattle.ladder_rows.specs.BoxTests.{top_span}
use Rattle.ladder_text.specs.Places.{Layout, contact_at, coil_at, is_taken, in_operand}

-- two spans have a column in common
abbrev pub overlap : Span → Span → Bool
overlap a b = nat_lt a.first b.end && nat_lt b.first a.end

-- a letter, digit, `_`, `.` or `#` outside boxes, symbols and operands
unfoldable pub in_word : Layout → ℕ → ℕ → Bool
in_word p r c = is_word_char (char_at p.rows r c) && not (is_taken p r c) && not (in_operand p r c)

-- the word that begins at (r, c), if one does
unfoldable pub word_at : Layout → ℕ → ℕ → Option Span
word_at p r c =
    if in_word p r c && not (in_word p r (c - 1))
    then Some (record { first = c; end = c + 1 + run (in_word p r) (c + 1) (width p.rows) })
    else None

-- the words of a row, operands aside
unfoldable pub words : Layout → ℕ → List Span
words p r = upto (width p.rows) (λ c. option_list (word_at p r c))

-- the three columns of a symbol, from its first on
abbrev pub symbol_span : ℕ → Span
symbol_span c = record { first = c; end = c + 3 }

-- the three columns of the symbol whose first place is (r, c), if there is one
unfoldable pub symbol_at : Layout → ℕ → ℕ → Option Span
symbol_at p r c = if is_some (contact_at p r c) || is_some (coil_at p r c) then Some (symbol_span c) else None

-- the three columns of each symbol, and the top side of each box, in a row
unfoldable pub symbols : Layout → ℕ → List Span
symbols p r = upto (width p.rows) (λ c. option_list (symbol_at p r c))

-- the top sides of the boxes that begin in a row
unfoldable pub tops : Layout → ℕ → List Span
tops p r = map top_span (filter (λ b. b.top == r) p.boxes)

-- what words name in a row
unfoldable pub things : Layout → ℕ → List Span
things p r = symbols p r ++ tops p r

-- the characters of a word
abbrev pub word_text : Layout → ℕ → Span → List ℕ
word_text p r w = cut p.rows r w.first w.end

-- the text of a word, if there is one
abbrev pub found_text : Layout → ℕ → Option Span → List ℕ
found_text p r None = []
found_text p r (Some w) = word_text p r w

-- the name of what stands at the span s of row r: the first word above it
unfoldable pub name_above : Layout → ℕ → Span → List ℕ
name_above p r s = found_text p (r - 1) (find (overlap s) (words p (r - 1)))

-- the contact or coil at a place, by its kind
abbrev pub symbol_with : {Kind : Type 0} → Layout → ℕ → ℕ → Option Kind → Option (Symbol Kind)
symbol_with p r c None = None
symbol_with p r c (Some k) = Some (record { row = r; column = c; kind = k; name = name_above p r (symbol_span c) })

-- the contact whose first place is (r, c), if there is one
abbrev pub contact_here : Layout → ℕ → ℕ → Option Contact
contact_here p r c = symbol_with p r c (contact_at p r c)

-- the contacts of a row, by column
unfoldable pub row_contacts : Layout → ℕ → List Contact
row_contacts p r = upto (width p.rows) (λ c. option_list (contact_here p r c))

-- the contacts, by row and then column
unfoldable pub contacts : Layout → List Contact
contacts p = upto (height p.rows) (row_contacts p)

-- the coil whose first place is (r, c), if there is one
abbrev pub coil_here : Layout → ℕ → ℕ → Option Coil
coil_here p r c = symbol_with p r c (coil_at p r c)

-- the coils of a row, by column
unfoldable pub row_coils : Layout → ℕ → List Coil
row_coils p r = upto (width p.rows) (λ c. option_list (coil_here p r c))

-- the coils, by row and then column
unfoldable pub coils : Layout → List Coil
coils p = upto (height p.rows) (row_coils p)

-- a box with its name
abbrev pub drawn_box : Layout → Outline → DrawnBox
drawn_box p b = record {
  top = b.top;
  left = b.left;
  bottom = b.bottom;
  right = b.right;
  block = b.block;
  instance = name_above p b.top (top_span b);
  pins = b.pins;
}

-- the boxes, by row and then column
unfoldable pub drawn_boxes : Layout → List DrawnBox
drawn_boxes p = map (drawn_box p) p.boxes
