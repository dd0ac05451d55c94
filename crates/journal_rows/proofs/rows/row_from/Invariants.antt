-- So many files go on one from the other.
use Rattle.std.proofs.Common.{◌≡◌, ◌<◌, length}
use Rattle.journal_rows.specs.Rows.{line_ends, GoOn}
use Rattle.journal_rows.proofs.rows.row_from.Given as goal

abbrev pub invariant-loop-further : goal.invariant-loop-further
invariant-loop-further l =
    (l.last < length l.texts) × (l.row.lines ≡ line_ends l.row.text.items)
    × GoOn l.texts l.first l.further l.last l.row.files.items l.row.ended.items l.row.text.items
