use Rattle.std.proofs.Common.{◌≡◌, ◌<◌, ℕ, List, length}
use Rattle.network.specs.declared.joining.labels.Pair.{Pair}
use Rattle.network.specs.Steps.Joined.{Joined, AreChained, AreFalling, IsOneAlong, KeepsClasses}
use Rattle.network.proofs.joining.labels.root_of.Given as goal

abbrev pub invariant-loop-labels : goal.invariant-loop-labels
invariant-loop-labels l = record {
  within : l.at < length l.labels;
  falling : AreFalling l.labels;
  classes : KeepsClasses l.initial.labels l.labels;
  found : (f : ℕ → ℕ) → IsOneAlong f l.labels → f l.at ≡ f l.start;
  chained : (pairs : List Pair) → AreChained pairs l.initial.labels → Joined pairs l.at l.start;
}

abbrev pub decreases-loop-labels : goal.decreases-loop-labels
decreases-loop-labels l = l.at
