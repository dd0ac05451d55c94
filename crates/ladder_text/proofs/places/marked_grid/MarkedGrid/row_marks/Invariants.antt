use Rattle.std.proofs.Common.{◌≡◌, ◌≤◌, ◌-◌, ◌∷◌, []}
use Rattle.ladder_rows.specs.Rows.{upto}
use Rattle.ladder_text.specs.Places.{layout_of, mark}
use Rattle.drawings.specs.declared.mark.Mark.TheVariants.{Blank}
use Rattle.ladder_text.proofs.Marks.RowMarks.{IsQuiet}
use Rattle.ladder_text.proofs.places.marked_grid.MarkedGrid.row_marks.Given as goal

abbrev pub invariant-loop-column : goal.invariant-loop-column
invariant-loop-column l = record {
  within : l.column ≤ l.last;
  marks : l.marks ≡ Blank ∷ upto l.column (λ c. mark (layout_of l.self) l.row c ∷ []);
  quiet : IsQuiet (layout_of l.self) l.row l.column;
}

abbrev pub decreases-loop-column : goal.decreases-loop-column
decreases-loop-column l = l.last - l.column
