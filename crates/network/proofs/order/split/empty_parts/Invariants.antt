use Rattle.std.proofs.Common.{◌≡◌, ℕ, List, [], Some, length, slice_get}
use Rattle.network.specs.declared.listing.listed.Entry.{Entry}
use Rattle.network.proofs.order.split.empty_parts.Given as goal

abbrev pub invariant-loop-size : goal.invariant-loop-size
invariant-loop-size l = record {
  long : length l.parts.items ≡ l.size-index;
  empty : (m : ℕ) (es : List Entry) → slice_get l.parts.items m ≡ Some es → es ≡ [];
}
