-- Worked drawings.
use Rattle.std.specs.Prelude.{ℕ, ◌≡◌, List, [], ◌∷◌, ◌++◌, map, drop, codes}
use Rattle.drawings.specs.declared.mark.Mark.{Mark}
use Rattle.drawings.specs.declared.mark.Mark.TheVariants.{Blank, Rail, Wire, Join, Upright, ContactPart, CoilPart, BoxPart}
use Rattle.drawings.specs.Symbols.{Contact}
use Rattle.drawings.specs.Symbols.{Coil}
use Rattle.drawings.specs.declared.drawn_box.DrawnBox.{DrawnBox}
use Rattle.ladder_rows.specs.Rows.{rows_of, trimmed}
use Rattle.ladder_text.specs.Places.{layout_of}
use Rattle.ladder_text.specs.Faults.{IsWellDrawn}
use Rattle.ladder_text.specs.Picture.{marks_of, picture_of}

-- lines as a text
abbrev pub text_of : List (List ℕ) → List ℕ
text_of [] = []
text_of (line ∷ lines) = line ++ 10 ∷ text_of lines

-- a mark as a letter: `R` a rail, `w` a wire, `j` a join, `u` an upright, `C` a contact, `O` a coil, `B` a box
abbrev pub letter : Mark → ℕ
letter Blank = 32
letter Rail = 82
letter Wire = 119
letter Join = 106
letter Upright = 117
letter ContactPart = 67
letter CoilPart = 79
letter BoxPart = 66

-- the marks of a text, row by row, as letters
abbrev pub shown : List ℕ → List (List ℕ)
shown text = map (λ row. trimmed (map letter (drop 1 row))) (marks_of (layout_of (rows_of text)))

-- a text is well drawn, and its marks are the letters
pub record IsDrawnAs (text : List ℕ) (letters : List (List ℕ)) : Type 0 where
  pub well_drawn : IsWellDrawn (rows_of text)
  pub marks : shown text ≡ letters

-- two branches that join
unfoldable pub branches : List ℕ
branches = text_of (
    codes "|  A           Y"
    ∷ codes "+--| |--+------( )"
    ∷ codes "|       |"
    ∷ codes "|       +--+"
    ∷ codes "|  C       |   X"
    ∷ codes "+--| |-----+---( )" ∷ [])

unfoldable pub branches_marks : List (List ℕ)
branches_marks =
    codes "R"
    ∷ codes "RwwCCCwwjwwwwwwOOO"
    ∷ codes "R       u"
    ∷ codes "R       jwwj"
    ∷ codes "R          u"
    ∷ codes "RwwCCCwwwwwjwwwOOO" ∷ []

-- a motor's start and stop
unfoldable pub start_stop : List ℕ
start_stop = text_of (
    codes "|  START      STOP     RUN"
    ∷ codes "+--| |----+---|/|------( )"
    ∷ codes "|  RUN    |"
    ∷ codes "+--| |----+" ∷ [])

unfoldable pub start_stop_marks : List (List ℕ)
start_stop_marks =
    codes "R"
    ∷ codes "RwwCCCwwwwjwwwCCCwwwwwwOOO"
    ∷ codes "R         u"
    ∷ codes "RwwCCCwwwwj" ∷ []

-- a contact that sees a rise
unfoldable pub rising_contact : List ℕ
rising_contact = text_of (
    codes "|  A    B     Y"
    ∷ codes "+--| |--|P|---( )" ∷ [])

unfoldable pub rising_contact_marks : List (List ℕ)
rising_contact_marks =
    codes "R"
    ∷ codes "RwwCCCwwCCCwwwOOO" ∷ []

-- a timer with operands on its pins
unfoldable pub on_delay : List ℕ
on_delay = text_of (
    codes "|             T1"
    ∷ codes "|         +-------+"
    ∷ codes "|  GO     |  TON  |   Y"
    ∷ codes "+--| |----|IN    Q|---( )"
    ∷ codes "| T#30ms--|PT   ET|--E"
    ∷ codes "|         +-------+" ∷ [])

unfoldable pub on_delay_marks : List (List ℕ)
on_delay_marks =
    codes "R"
    ∷ codes "R         BBBBBBBBB"
    ∷ codes "R         BBBBBBBBB"
    ∷ codes "RwwCCCwwwwBBBBBBBBBwwwOOO"
    ∷ codes "R         BBBBBBBBB"
    ∷ codes "R         BBBBBBBBB" ∷ []

-- a wire beside a wire, which is no box
unfoldable pub parallel_wire : List ℕ
parallel_wire = text_of (
    codes "|             Y"
    ∷ codes "+--+-----+----( )"
    ∷ codes "|  |     |"
    ∷ codes "|  +-----+" ∷ [])

unfoldable pub parallel_wire_marks : List (List ℕ)
parallel_wire_marks =
    codes "R"
    ∷ codes "RwwjwwwwwjwwwwOOO"
    ∷ codes "R  u     u"
    ∷ codes "R  jwwwwwj" ∷ []

-- a box that no line reaches
unfoldable pub unattached_box : List ℕ
unattached_box = text_of (
    codes "|   T1"
    ∷ codes "|  +-----+"
    ∷ codes "|  | TON |"
    ∷ codes "|  +-----+" ∷ [])

unfoldable pub unattached_box_marks : List (List ℕ)
unattached_box_marks =
    codes "R"
    ∷ codes "R  BBBBBBB"
    ∷ codes "R  BBBBBBB"
    ∷ codes "R  BBBBBBB" ∷ []

-- the place and name of each contact and coil
abbrev pub contacts_of : List ℕ → List (ℕ × ℕ × List ℕ)
contacts_of text = map (λ (x : Contact). (x.row, x.column, x.name)) (picture_of 1 (layout_of (rows_of text))).contacts

abbrev pub coils_of : List ℕ → List (ℕ × ℕ × List ℕ)
coils_of text = map (λ (x : Coil). (x.row, x.column, x.name)) (picture_of 1 (layout_of (rows_of text))).coils

-- the corners and name of each box
abbrev pub boxes_of : List ℕ → List (ℕ × ℕ × ℕ × ℕ × List ℕ)
boxes_of text =
    map (λ (b : DrawnBox). (b.top, b.left, b.bottom, b.right, b.instance))
    (picture_of 1 (layout_of (rows_of text))).boxes

-- what the drawing of two branches lists
pub record IsBranchesListed : Type 0 where
  pub contacts : contacts_of branches ≡ (2, 4, codes "A") ∷ (6, 4, codes "C") ∷ []
  pub coils : coils_of branches ≡ (2, 16, codes "Y") ∷ (6, 16, codes "X") ∷ []

-- what the drawing of the timer lists
pub record IsOnDelayListed : Type 0 where
  pub contacts : contacts_of on_delay ≡ (4, 4, codes "GO") ∷ []
  pub coils : coils_of on_delay ≡ (4, 23, codes "Y") ∷ []
  pub boxes : boxes_of on_delay ≡ (2, 11, 6, 19, codes "T1") ∷ []

-- a wire beside a wire, with a block type between them
unfoldable pub wire_beside_box : List ℕ
wire_beside_box = text_of (
    codes "|             Y"
    ∷ codes "+--+-----+----( )"
    ∷ codes "|  | TON |"
    ∷ codes "|  +-----+" ∷ [])

-- a box without its block type, and one without its bottom
unfoldable pub box_without_type : List ℕ
box_without_type = text_of (
    codes "|   T1"
    ∷ codes "|  +-----+"
    ∷ codes "|  |     |"
    ∷ codes "|  +-----+" ∷ [])

unfoldable pub box_without_bottom : List ℕ
box_without_bottom = text_of (
    codes "|   T1"
    ∷ codes "|  +-----+"
    ∷ codes "|  | TON |"
    ∷ codes "|  +---" ∷ [])

-- words with nothing below them
unfoldable pub cut_drawing : List ℕ
cut_drawing = text_of (codes "|  A     Y" ∷ [])

-- two words above one contact, and one word above two
unfoldable pub two_words : List ℕ
two_words = text_of (codes "|  A B" ∷ codes "+--| |" ∷ [])

unfoldable pub word_of_two : List ℕ
word_of_two = text_of (codes "|  ABCDEF" ∷ codes "+--| |-| |" ∷ [])

-- an upright that ends in the open
unfoldable pub loose_upright : List ℕ
loose_upright = text_of (codes "|" ∷ codes "+--+--" ∷ codes "|  |" ∷ [])

-- a contact with no line on its left
unfoldable pub loose_contact : List ℕ
loose_contact = text_of (codes "|  A" ∷ codes "+  | |" ∷ [])
