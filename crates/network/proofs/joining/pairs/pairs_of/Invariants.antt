use Rattle.std.proofs.Common.{◌≡◌, length}
use Rattle.network.specs.Steps.Pairs.{AreLast, ArePairsTo}
use Rattle.network.proofs.joining.pairs.pairs_of.Given as goal

abbrev pub invariant-loop-k : goal.invariant-loop-k
invariant-loop-k l = record {
  long : length l.last ≡ l.rows;
  last : AreLast l.elements l.last l.k;
  pairs : ArePairsTo l.elements l.pairs.items l.k;
}
