use Rattle.std.proofs.Common.{length}
use Rattle.plc_main.proofs.clashes.+clashing.Given as goal

abbrev pub decreases-clashing : goal.decreases-clashing
decreases-clashing l = length l.others.now
