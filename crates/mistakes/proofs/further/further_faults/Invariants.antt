use Rattle.std.proofs.Common.{◌≤◌, All, IfSome, length, string_bytes}
use Rattle.mistakes.specs.Further.{IsFurtherIn, IsLeftOf}
use Rattle.mistakes.proofs.further.further_faults.Given as goal

-- each fault so far is that of what was left, and there is one a round at most
abbrev pub invariant-loop-round : goal.invariant-loop-round
invariant-loop-round l =
    All (IsFurtherIn (string_bytes l.whole)) l.faults.items
    × IfSome l.rest (λ rest. IsLeftOf (string_bytes l.whole) (string_bytes rest))
    × (length l.faults.items ≤ l._round)
