use Rattle.std.proofs.Common.{◌≡◌}
use Rattle.journal_rows.specs.Rows.{loose_of}
use Rattle.journal_rows.proofs.rows.loose_of.Given as goal

abbrev pub invariant-loop-file : goal.invariant-loop-file
invariant-loop-file l = l.loose.items ≡ loose_of l.rows l.file
