use Rattle.std.proofs.Common.{◌≡◌, ◌≤◌, ◌-◌}
use Rattle.ladder_rows.specs.Rows.{upto}
use Rattle.ladder_rows.specs.Boxes.{option_list}
use Rattle.ladder_text.specs.Places.{layout_of}
use Rattle.ladder_text.specs.Names.{symbol_at}
use Rattle.ladder_text.proofs.Marks.RowMarks.{IsQuiet}
use Rattle.ladder_text.proofs.names.spans.symbols_in.Given as goal

abbrev pub invariant-loop-column : goal.invariant-loop-column
invariant-loop-column l = record {
  within : l.column ≤ l.last;
  symbols : l.symbols.items ≡ upto l.column (λ c. option_list (symbol_at (layout_of l.marked) l.row c));
  quiet : IsQuiet (layout_of l.marked) l.row l.column;
}

abbrev pub decreases-loop-column : goal.decreases-loop-column
decreases-loop-column l = l.last - l.column
