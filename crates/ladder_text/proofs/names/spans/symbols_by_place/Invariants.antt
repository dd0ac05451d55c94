use Rattle.std.proofs.Common.{◌≡◌}
use Rattle.ladder_rows.specs.Rows.{upto}
use Rattle.ladder_rows.specs.Boxes.{option_list}
use Rattle.ladder_text.specs.Places.{layout_of}
use Rattle.ladder_text.specs.Names.{symbol_at}
use Rattle.ladder_text.proofs.names.spans.symbols_by_place.Given as goal

abbrev pub invariant-loop-column : goal.invariant-loop-column
invariant-loop-column l = l.symbols.items ≡ upto l.column (λ c. option_list (symbol_at (layout_of l.marked) l.row c))
