use Rattle.std.proofs.Common.{◌≡◌, length}
use Rattle.network.specs.Steps.Pairs.{AreTakers}
use Rattle.network.proofs.joining.takers.takers_of.Given as goal

abbrev pub invariant-loop-k : goal.invariant-loop-k
invariant-loop-k l = record {
  long : length l.takers ≡ l.rows;
  takers : AreTakers l.elements l.column l.takers l.k;
}
