-- No line ended yet.
use Rattle.std.proofs.Common.{◌≡◌, drop}
use Rattle.journal_rows.specs.Rows.{behind_first_line}
use Rattle.journal_rows.proofs.rows.behind_first_line.Given as goal

abbrev pub invariant-loop-place : goal.invariant-loop-place
invariant-loop-place l = behind_first_line (drop l.place l.text) ≡ behind_first_line l.text
