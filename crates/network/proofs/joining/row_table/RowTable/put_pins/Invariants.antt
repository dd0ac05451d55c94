use Rattle.std.proofs.Common.{◌≡◌, length}
use Rattle.network.specs.Steps.Rows.{Puts}
use Rattle.network.proofs.Joined.RowTables.{side_column}
use Rattle.network.proofs.Joined.RowTables.{IsPinTo}
use Rattle.network.proofs.joining.row_table.RowTable.put_pins.Given as goal

abbrev pub invariant-loop-pin : goal.invariant-loop-pin
invariant-loop-pin l = record {
  puts : Puts (IsPinTo l.side l.drawn l.pin-index) l.element l.initial.self l.self;
  long : length l.self ≡ length l.initial.self;
  column : l.column ≡ side_column l.side l.drawn;
  items : l.pin-items ≡ l.drawn.pins;
}
