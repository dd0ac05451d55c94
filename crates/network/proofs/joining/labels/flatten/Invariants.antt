use Rattle.network.specs.Steps.Joined.{AreFalling, KeepsClasses}
use Rattle.network.proofs.Joined.Spreading.{AreFlatTo}
use Rattle.network.proofs.joining.labels.flatten.Given as goal

abbrev pub invariant-loop-k : goal.invariant-loop-k
invariant-loop-k l = record {
  falling : AreFalling l.labels;
  classes : KeepsClasses l.initial.labels l.labels;
  flat : AreFlatTo l.labels l.k;
}
