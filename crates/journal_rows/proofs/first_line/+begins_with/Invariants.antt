use Rattle.std.proofs.Common.{length}
use Rattle.journal_rows.proofs.first_line.+begins_with.Given as goal

abbrev pub decreases-begins_with : goal.decreases-begins_with
decreases-begins_with l = length l.bytes.now
