use Rattle.std.proofs.Common.{◌≡◌, ℕ, Option, Some, None, length, slice_get}
use Rattle.network.specs.declared.joining.row_table.InRow.{InRow}
use Rattle.network.proofs.joining.row_table.RowTable.new.Given as goal

abbrev pub invariant-loop-row : goal.invariant-loop-row
invariant-loop-row l = record {
  long : length l.rows.items ≡ l._row;
  none : (r : ℕ) (t : Option InRow) → slice_get l.rows.items r ≡ Some t → t ≡ None;
}
