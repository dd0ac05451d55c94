use Rattle.std.proofs.Common.{length}
use Rattle.plc_main.proofs.clashes.+first_nameless.Given as goal

abbrev pub decreases-first_nameless : goal.decreases-first_nameless
decreases-first_nameless l = length l.files.now
