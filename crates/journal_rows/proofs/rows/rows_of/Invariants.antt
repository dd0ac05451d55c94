-- The rows are those of the files before the present one.
use Rattle.journal_rows.specs.Rows.{HaveRows}
use Rattle.journal_rows.proofs.rows.rows_of.Given as goal

abbrev pub invariant-loop-first : goal.invariant-loop-first
invariant-loop-first l = HaveRows l.texts l.first l.rows.items
