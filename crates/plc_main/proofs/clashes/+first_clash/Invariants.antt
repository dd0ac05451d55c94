use Rattle.std.proofs.Common.{length}
use Rattle.plc_main.proofs.clashes.+first_clash.Given as goal

abbrev pub decreases-first_clash : goal.decreases-first_clash
decreases-first_clash l = length l.files.now
