use Rattle.std.proofs.Common.{◌+◌, List, length}
use Rattle.drawings.specs.Picture.{Picture, IsSound}
use Rattle.network.specs.declared.element.Element.{Element}
use Rattle.network.specs.Networks.{AreLeftRails}
use Rattle.network.specs.Steps.Listing.{AreElementsOf}
use Rattle.network.specs.Steps.Pairs.{AreLabels, AreTakers}
use Rattle.network.specs.Steps.Ranks.{AreRanksOf}
use Rattle.network.proofs.Ordered.Ranking.{TopsTo}
use Rattle.network.proofs.order.ranks.tops_of.Given as goal

abbrev pub invariant-loop-rail : goal.invariant-loop-rail
invariant-loop-rail l = record {
  tops : (g : Picture) (elements : List Element) → IsSound g → AreElementsOf g elements → AreLeftRails g l.rails → AreTakers elements (g.left + 1) l.takers (length elements) → AreLabels g elements l.labels
      → TopsTo g elements l.labels l.rails l.tops.items l.rail-index;
  table : AreRanksOf l.tops.items l.table;
}
