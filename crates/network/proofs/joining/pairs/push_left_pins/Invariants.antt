use Rattle.std.proofs.Common.{◌≡◌}
use Rattle.drawings.specs.declared.place.Place.{Place}
use Rattle.drawings.specs.declared.drawn_box.Side.TheVariants.{Left}
use Rattle.network.specs.Steps.Pairs.{IsLeftPair, Adds}
use Rattle.network.proofs.Joined.RowTables.{IsPinTo}
use Rattle.network.proofs.joining.pairs.push_left_pins.Given as goal

abbrev pub invariant-loop-pin : goal.invariant-loop-pin
invariant-loop-pin l = record {
  adds : Adds (λ m. (p : Place) × IsPinTo Left l.drawn l.pin-index p × IsLeftPair l.last p l.element m) l.initial.pairs.items l.pairs.items;
  column : l.column ≡ l.drawn.left;
  items : l.pin-items ≡ l.drawn.pins;
}
