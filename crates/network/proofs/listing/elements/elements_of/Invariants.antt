use Rattle.network.specs.Links.{place}
use Rattle.network.specs.Steps.Listed.{stand_for}
use Rattle.network.specs.Steps.Listing.{AreElementsBefore}
use Rattle.network.specs.Steps.Symbols.{AreSymbols}
use Rattle.network.proofs.listing.elements.elements_of.Given as goal

abbrev pub invariant-loop-column : goal.invariant-loop-column
invariant-loop-column l = record {
  elements : AreElementsBefore l.drawing (place 0 l.column) (stand_for l.drawing l.elements.items);
  symbols : AreSymbols l.drawing l.symbols;
}
