-- Where boxes begin, and what they are.
use Rattle.std.specs.Prelude.{ℕ, zero, suc, ◌+◌, ◌-◌, List, [], ◌∷◌, ◌++◌, ◌==◌, if◌then◌else◌, length, slice_index_or, take, drop, Bool, true, false, ◌&&◌, ◌||◌, not, nat_lt, nat_le, Option, Some, None, is_some}
use Rattle.std.specs.List.{slice_split, list_all, filter}
use Rattle.std_blocks.specs.declared.block_type.BlockType.{BlockType}
use Rattle.drawings.specs.declared.drawn_box.DrawnPin.{DrawnPin}
use Rattle.ladder_rows.specs.declared.boxes.outline.Outline.{Outline}
use Rattle.drawings.specs.declared.drawn_box.Operand.{Operand}
use Rattle.drawings.specs.declared.drawn_box.Side.{Side}
use Rattle.drawings.specs.declared.drawn_box.Side.TheVariants as side
use Rattle.ladder_rows.specs.Rows.{Rows, char_at, height, width, run, run_back, upto, trimmed}
use Rattle.words.specs.Chars.{block_type, is_identifier, is_word_char}

-- nothing is drawn in column c
abbrev pub is_blank_column : Rows → ℕ → Bool
is_blank_column d c = list_all (λ row. slice_index_or row c 32 == 32) d

-- L, the smallest column with a character that is no blank: so many columns before it are blank all the way down
unfoldable pub left_column : Rows → ℕ
left_column d = run (is_blank_column d) 0 (width d + 1)

-- the characters of row r from column a up to, and without, column b
abbrev pub cut : Rows → ℕ → ℕ → ℕ → List ℕ
cut d r a b = take (b - a) (drop a (slice_index_or d r []))

-- the words between blanks
abbrev pub blank_words : List ℕ → List (List ℕ)
blank_words text = filter (λ w. not (length w == 0)) (slice_split (λ c. c == 32) text)

-- how many dashes follow the place (r, c)
abbrev pub dashes_after : Rows → ℕ → ℕ → ℕ
dashes_after d r c = run (λ k. char_at d r k == 45) (c + 1) (width d - c)

-- where the top side that begins at (r, c) would end
abbrev pub top_end : Rows → ℕ → ℕ → ℕ
top_end d r c = c + 1 + dashes_after d r c

-- `|` or `>` at c and `|` at e
abbrev pub has_sides : Rows → ℕ → ℕ → ℕ → Bool
has_sides d c e r = (char_at d r c == 124 || char_at d r c == 62) && char_at d r e == 124

-- a text without the blanks that it begins with
abbrev pub without_leading : List ℕ → List ℕ
without_leading [] = []
without_leading (x ∷ xs) = if x == 32 then without_leading xs else x ∷ xs

-- the block type that stands alone, blanks aside, in the row below the top side
abbrev pub block_in : Rows → ℕ → ℕ → Option BlockType
block_in d r c = block_type (trimmed (without_leading (cut d (r + 1) (c + 1) (top_end d r c))))

-- a box begins at (r, c)
unfoldable pub begins_box : Rows → ℕ → ℕ → Bool
begins_box d r c =
    nat_lt (left_column d) c && char_at d r c == 43
    && nat_lt 0 (dashes_after d r c) && char_at d r (top_end d r c) == 43
    && has_sides d c (top_end d r c) (r + 1) && is_some (block_in d r c)

-- the row of the bottom side: the first below the top that has no sides
abbrev pub bottom_row : Rows → ℕ → ℕ → ℕ
bottom_row d r c = r + 1 + run (has_sides d c (top_end d r c)) (r + 1) (height d - r)

-- (r, c) is a place of the box
abbrev pub covers : ℕ → ℕ → Outline → Bool
covers r c b = nat_le b.top r && nat_le r b.bottom && nat_le b.left c && nat_le c b.right

-- the row r is one of the box's
abbrev pub meets_row : ℕ → Outline → Bool
meets_row r b = nat_le b.top r && nat_le r b.bottom

-- the first column of the word that ends at (r, e), and of the word that ends before b
abbrev pub word_start : Rows → ℕ → ℕ → ℕ
word_start d r e = e + 1 - run_back (λ k. is_word_char (char_at d r k)) e e

-- the end of the word that begins at (r, s)
abbrev pub word_end : Rows → ℕ → ℕ → ℕ
word_end d r s = s + run (λ k. is_word_char (char_at d r k)) s (width d)

-- the operand of a left pin, behind a run of dashes to the left of column c
abbrev pub left_operand : Rows → ℕ → ℕ → Option Operand
left_operand d r c =
    let e = c - 1 - run_back (λ k. char_at d r k == 45) (c - 1) c in
    if is_word_char (char_at d r e)
    then Some (record { text = cut d r (word_start d r e) (e + 1); column = word_start d r e })
    else None

-- the operand of a right pin, behind a run of dashes to the right of column c
abbrev pub right_operand : Rows → ℕ → ℕ → Option Operand
right_operand d r c =
    let s = c + 1 + dashes_after d r c in
    if is_word_char (char_at d r s)
    then Some (record { text = cut d r s (word_end d r s); column = s })
    else None

-- the operand of a pin of the side at column c
abbrev pub operand_beside : Rows → Side → ℕ → ℕ → Option Operand
operand_beside d side.Left r c = left_operand d r c
operand_beside d side.Right r c = right_operand d r c

-- a pin of the side at column c, by its name
abbrev pub side_pin : Rows → Side → ℕ → ℕ → List ℕ → DrawnPin
side_pin d s r c name = record { row = r; side = s; name = name; operand = operand_beside d s r c }

-- the blanks before the first character that is none
abbrev pub blanks_before : List ℕ → ℕ
blanks_before text = length text - length (without_leading text)

-- the blanks behind the last character that is none
abbrev pub blanks_behind : List ℕ → ℕ
blanks_behind text = length text - length (trimmed text)

-- the pin of the only word w of an inner row, on the side that is nearer to it
unfoldable pub nearer_pin : Rows → ℕ → ℕ → ℕ → List ℕ → DrawnPin
nearer_pin d r a e w =
    let text = cut d r (a + 1) e in
    if nat_le (blanks_before text) (blanks_behind text) then side_pin d side.Left r a w else side_pin d side.Right r e w

-- the pins of an inner row between the sides a and e, with the words ws there; none where it isn't as it should be
abbrev pub pins_from : Rows → ℕ → ℕ → ℕ → List (List ℕ) → Option (List DrawnPin)
pins_from d r a e [] = Some []
pins_from d r a e (w ∷ []) = if is_identifier w then Some (nearer_pin d r a e w ∷ []) else None
pins_from d r a e (w ∷ v ∷ []) =
    if is_identifier w && is_identifier v
    then Some (side_pin d side.Left r a w ∷ side_pin d side.Right r e v ∷ [])
    else None
pins_from d r a e (w ∷ v ∷ u ∷ more) = None

-- the pins of the inner row r between the sides a and e
abbrev pub row_pins : Rows → ℕ → ℕ → ℕ → Option (List DrawnPin)
row_pins d a e r = pins_from d r a e (blank_words (cut d r (a + 1) e))

-- two lists one after the other, if both are there
abbrev pub both : {A : Type 0} → Option (List A) → Option (List A) → Option (List A)
both None y = None
both (Some xs) None = None
both (Some xs) (Some ys) = Some (xs ++ ys)

-- the pins of n inner rows from row r on
abbrev pub pins_of_rows : Rows → ℕ → ℕ → ℕ → ℕ → Option (List DrawnPin)
pins_of_rows d a e r zero = Some []
pins_of_rows d a e r (suc n) = both (pins_of_rows d a e r n) (row_pins d a e (r + n))

-- the row r has `+` at a and e, and dashes between them
abbrev pub is_edge : Rows → ℕ → ℕ → ℕ → Bool
is_edge d a e r = char_at d r a == 43 && a + 1 + dashes_after d r a == e && char_at d r e == 43

-- the box that begins at (r, c), if its sides, bottom and inner rows are as they should be
abbrev pub outline_with : Rows → ℕ → ℕ → ℕ → ℕ → Option BlockType → Option (List DrawnPin) → Option Outline
outline_with d r c bottom e (Some block) (Some pins) =
    if is_edge d c e bottom
    then Some (record { top = r; left = c; bottom = bottom; right = e; block = block; pins = pins })
    else None
outline_with d r c bottom e None pins = None
outline_with d r c bottom e (Some block) None = None

-- the box that begins at (r, c), as the rows below it say
unfoldable pub outline_at : Rows → ℕ → ℕ → Option Outline
outline_at d r c =
    outline_with d r c (bottom_row d r c) (top_end d r c) (block_in d r c)
    (pins_of_rows d c (top_end d r c) (r + 2) (bottom_row d r c - (r + 2)))

-- what is there, as a list of at most one
abbrev pub option_list : {A : Type 0} → Option A → List A
option_list None = []
option_list (Some x) = x ∷ []

-- the box at (r, c), if one begins there and is as it should be
unfoldable pub box_at : Rows → ℕ → ℕ → Option Outline
box_at d r c = elim (begins_box d r c) [ true ↦ outline_at d r c | false ↦ None ]

-- the boxes that begin in row r, by column
unfoldable pub row_outlines : Rows → ℕ → List Outline
row_outlines d r = upto (width d) (λ c. option_list (box_at d r c))

-- the boxes, by row and then column of their corners
unfoldable pub outlines : Rows → List Outline
outlines d = upto (height d) (row_outlines d)
