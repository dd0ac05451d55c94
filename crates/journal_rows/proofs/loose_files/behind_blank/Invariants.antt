-- No blank stood yet.
use Rattle.std.proofs.Common.{◌≡◌, drop}
use Rattle.journal_rows.specs.LooseFiles.{behind_blank}
use Rattle.journal_rows.proofs.loose_files.behind_blank.Given as goal

abbrev pub invariant-loop-place : goal.invariant-loop-place
invariant-loop-place l = behind_blank (drop l.place l.text) ≡ behind_blank l.text
