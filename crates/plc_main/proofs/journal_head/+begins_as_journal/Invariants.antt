use Rattle.std.proofs.Common.{length}
use Rattle.plc_main.proofs.journal_head.+begins_as_journal.Given as goal

abbrev pub decreases-begins_as_journal : goal.decreases-begins_as_journal
decreases-begins_as_journal l = length l.text.now
