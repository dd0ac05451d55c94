use Rattle.std.proofs.Common.{take}
use Rattle.name_faults.specs.Guess.{uses_of}
use Rattle.name_faults.proofs.GuessedNames.{AreOrdered}
use Rattle.name_faults.proofs.guess.all_uses.Given as goal

abbrev pub invariant-loop-network : goal.invariant-loop-network
invariant-loop-network l = AreOrdered (uses_of (take l.network-index l.networks)) l.uses.items
