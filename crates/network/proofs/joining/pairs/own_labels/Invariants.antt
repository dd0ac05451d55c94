use Rattle.std.proofs.Common.{◌≡◌, ◌<◌, ℕ, length, slice_index}
use Rattle.network.proofs.joining.pairs.own_labels.Given as goal

abbrev pub invariant-loop-k : goal.invariant-loop-k
invariant-loop-k l = record {
  long : length l.labels.items ≡ l.k;
  own : (j : ℕ) → j < l.k → slice_index l.labels.items j ≡ j;
}
