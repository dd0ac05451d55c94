-- The rows tell the same, and there is one for each producer so far.
use Rattle.std.proofs.Common.{◌≡◌, ℕ, true, take}
use Rattle.task_codes.specs.declared.task_ref.TaskRef.{TaskRef}
use Rattle.evaluation.specs.declared.take.Take.{Take}
use Rattle.std.specs.List.{AllByRecursion}
use Rattle.book.specs.Steps.Ledger.{taker_in, has_row}
use Rattle.book.proofs.book.ledger.takers.make_rows.Given as goal

abbrev pub invariant-loop-take : goal.invariant-loop-take
invariant-loop-take l =
    ((n : ℕ) (q : TaskRef) → taker_in l.rows.items n q ≡ taker_in l.fn.rows.items n q)
    × AllByRecursion (λ (u : Take). has_row l.rows.items l.resource u.producer ≡ true) (take l.take-index l.takes)
