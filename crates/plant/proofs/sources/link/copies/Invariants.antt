use Rattle.std.proofs.Common.{◌≡◌, take}
use Rattle.plant.proofs.sources.link.copies.Given as goal

abbrev pub invariant-loop-program : goal.invariant-loop-program
invariant-loop-program l = l.copies.items ≡ take l.program-index l.programs
