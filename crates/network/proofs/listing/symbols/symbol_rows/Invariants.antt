use Rattle.drawings.specs.declared.place.Place.{Place}
use Rattle.network.specs.Steps.Symbols.{IsInside}
use Rattle.network.proofs.listing.symbols.symbol_rows.Given as goal

abbrev pub invariant-loop-k : goal.invariant-loop-k
invariant-loop-k g l = (p : Place) → IsInside l.rows p → ⊥
