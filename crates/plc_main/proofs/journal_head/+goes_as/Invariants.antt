use Rattle.std.proofs.Common.{length}
use Rattle.plc_main.proofs.journal_head.+goes_as.Given as goal

abbrev pub decreases-goes_as : goal.decreases-goes_as
decreases-goes_as l = length l.letters.now
