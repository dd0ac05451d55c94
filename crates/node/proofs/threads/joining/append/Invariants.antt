-- The faults before are told, and those that were appended so far.
use Rattle.std.proofs.Common.{take, vec_items}
use Rattle.node.specs.Steps.Keeping.{TellsMore}
use Rattle.node.proofs.threads.joining.append.Given as goal

abbrev pub invariant-loop-k : goal.invariant-loop-k
invariant-loop-k l = TellsMore (vec_items l.fn.faults) (vec_items l.faults) × TellsMore (take l.k (vec_items l.more.listed)) (vec_items l.faults)
