-- The drawing of a text.
use Rattle.std.specs.Prelude.{ℕ, List, [], ◌∷◌}
use Rattle.drawings.specs.declared.mark.Mark.{Mark}
use Rattle.drawings.specs.declared.mark.Mark.TheVariants.{Blank}
use Rattle.drawings.specs.Picture.{Picture, picture}
use Rattle.ladder_rows.specs.Rows.{width, height, upto}
use Rattle.ladder_text.specs.Places.{Layout, mark}
use Rattle.ladder_text.specs.Names.{contacts, coils, drawn_boxes}

-- the marks of a row, behind a margin
abbrev pub row_marks : Layout → ℕ → List Mark
row_marks p r = Blank ∷ upto (width p.rows) (λ c. mark p r c ∷ [])

-- the marks row by row
unfoldable pub marks_of : Layout → List (List Mark)
marks_of p = upto (height p.rows) (λ r. row_marks p r ∷ [])

-- the drawing of a layout whose first line has a number
unfoldable pub picture_of : ℕ → Layout → Picture
picture_of line p =
    picture line (height p.rows) (width p.rows) p.left (marks_of p) (contacts p) (coils p) (drawn_boxes p)
