use Rattle.std.proofs.Common.{◌≡◌, ◌++◌, take}
use Rattle.ladder_systems.specs.Remembering.{marked}
use Rattle.ladder_systems.proofs.state_bits.push_marked.Given as goal

abbrev pub invariant-loop-k : goal.invariant-loop-k
invariant-loop-k l = l.bits.items ≡ l.initial.bits.items ++ marked (take l.k l.marks) (take l.k l.signals)
