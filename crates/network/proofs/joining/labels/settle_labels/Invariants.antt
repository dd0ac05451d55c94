use Rattle.std.proofs.Common.{◌≡◌, ◌<◌, ℕ, length, slice_get, Some}
use Rattle.network.specs.declared.joining.labels.Pair.{Pair}
use Rattle.network.specs.Steps.Joined.{AreFalling, AreChained, IsOneAlong}
use Rattle.network.proofs.joining.labels.settle_labels.Given as goal

abbrev pub invariant-loop-pair : goal.invariant-loop-pair
invariant-loop-pair l = record {
  long : length l.labels ≡ length l.initial.labels;
  falling : AreFalling l.labels;
  chained : AreChained l.pairs l.labels;
  united : (f : ℕ → ℕ) → IsOneAlong f l.labels → (k : ℕ) (p : Pair) → k < l.pair-index → slice_get l.pairs k ≡ Some p → f p.one ≡ f p.other;
}
