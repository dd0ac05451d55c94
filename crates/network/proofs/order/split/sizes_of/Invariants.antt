use Rattle.std.proofs.Common.{◌≡◌, length}
use Rattle.network.proofs.order.split.sizes_of.Given as goal

abbrev pub invariant-loop-k : goal.invariant-loop-k
invariant-loop-k l = length l.sizes.items ≡ l.count
