use Rattle.std.proofs.Common.{◌≡◌, ◌<◌, ℕ, true, Some, slice_get}
use Rattle.std.specs.Fn.{FnReturnsAtPair}
use Rattle.lists.proofs.same.are_same.Given as goal

-- the test answered that the items so far are alike
abbrev pub invariant-loop-i : goal.invariant-loop-i
invariant-loop-i g l =
    (k : ℕ) (x y : g.row.T.Denot) → k < l.i → slice_get l.items k ≡ Some x → slice_get l.others k ≡ Some y → FnReturnsAtPair g.F.Fn l.same x y true
