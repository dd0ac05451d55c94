-- What was found so far of the rows, and the marks of a row that are at hand.
use Rattle.std.specs.Prelude.{ℕ, ◌<◌, ◌≤◌, ◌≡◌, ◌⊎◌, List, [], slice_index_or, Option, IfSome, Bool}
use Rattle.drawings.specs.declared.mark.Mark.{Mark}
use Rattle.drawings.specs.declared.mark.Mark.TheVariants.{Blank}
use Rattle.ladder_rows.specs.declared.boxes.outline.Outline.{Outline}
use Rattle.ladder_rows.specs.Rows.{Rows, width}
use Rattle.ladder_rows.specs.Boxes.{outlines}
use Rattle.ladder_text.specs.Places.{Layout, mark, has_right_rail, layout_of}
use Rattle.ladder_text.specs.Picture.{marks_of}

-- whether there is a right rail, if that was found
abbrev pub IsRailIfFound : Rows → Option Bool → Type 0
IsRailIfFound d found = IfSome found (λ right_rail. right_rail ≡ has_right_rail (layout_of d))

-- the marks row by row, or none of them
abbrev pub AreMarksIfFound : Rows → List (List Mark) → Type 0
AreMarksIfFound d marks = (marks ≡ []) ⊎ (marks ≡ marks_of (layout_of d))

-- the boxes of the rows, and what was found so far of rails and marks
abbrev pub AreFoundIn : Rows → List Outline → Option Bool → List (List Mark) → Type 0
AreFoundIn d boxes right_rail marks = (boxes ≡ outlines d) × IsRailIfFound d right_rail × AreMarksIfFound d marks

-- the marks of the row r behind a margin
pub record AreMarksOf (p : Layout) (r : ℕ) (marks : List Mark) : Type 0 where
  pub each : (c : ℕ) → 0 < c → c ≤ width p.rows → slice_index_or marks c Blank ≡ mark p r c
