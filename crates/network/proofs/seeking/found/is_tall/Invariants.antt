use Rattle.std.proofs.Common.{◌<◌}
use Rattle.network.proofs.Sought.FirstFound.{RowsTo}
use Rattle.network.proofs.seeking.found.is_tall.Given as goal

abbrev pub invariant-loop-element : goal.invariant-loop-element
invariant-loop-element l = record {
  rows : RowsTo l.elements l.top l.bottom l.element-index;
  fits : l.bottom < 18446744073709551616;
}
