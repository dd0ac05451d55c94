use Rattle.std.proofs.Common.{arith}
use Rattle.network.specs.Steps.Listed.{stand_for}
use Rattle.network.proofs.Listed.ElementOrder.{elements_none, elements_all}
use Rattle.network.proofs.listing.elements.elements_of.Goals as goal

pub loop-column-init : goal.loop-column-init
loop-column-init c = record {
  elements = rw c.new-elements.ensures.items (elements_none c.args.drawing.now c.requires);
  symbols = c.in_ok-symbols.ensures;
}

pub returns : goal.returns
returns c = rw c.new.ensures (elements_all c.args.drawing.now c.requires c.loop-column.column (stand_for c.args.drawing.now c.loop-column.elements.items) (let columns = c.columns-column-end.ensures in omega arith) c.loop-column.invariant.elements)
