use Rattle.std.proofs.Common.{length}
use Rattle.console.proofs.verify_answer.+are_of_plant.Given as goal

abbrev pub decreases-are_of_plant : goal.decreases-are_of_plant
decreases-are_of_plant l = length l.names.now
