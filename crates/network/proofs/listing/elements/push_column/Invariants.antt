use Rattle.network.specs.Links.{place}
use Rattle.network.specs.Steps.Listed.{stand_for}
use Rattle.network.specs.Steps.Listing.{AreElementsBefore}
use Rattle.network.specs.Steps.Symbols.{AreSymbols}
use Rattle.network.proofs.listing.elements.push_column.Given as goal

abbrev pub invariant-loop-row : goal.invariant-loop-row
invariant-loop-row l = record {
  elements : AreElementsBefore l.drawing (place l.row l.column) (stand_for l.drawing l.elements.items);
  symbols : AreSymbols l.drawing l.symbols;
}
