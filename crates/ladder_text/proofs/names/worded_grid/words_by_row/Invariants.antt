use Rattle.ladder_text.specs.Places.{layout_of}
use Rattle.ladder_text.specs.Names.{words}
use Rattle.ladder_text.specs.Steps.RowSpans.{AreOfRows}
use Rattle.ladder_text.proofs.names.worded_grid.words_by_row.Given as goal

abbrev pub invariant-loop-row : goal.invariant-loop-row
invariant-loop-row l = AreOfRows (words (layout_of l.marked)) l.row l.all.items
