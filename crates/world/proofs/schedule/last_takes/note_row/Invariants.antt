-- No row so far is of this producer.
use Rattle.std.proofs.Common.{◌≡◌, ℕ, ◌<◌, false, get_or}
use Rattle.evaluation.specs.Last.{same_task}
use Rattle.world.specs.declared.schedule.last_takes.LastTake.{LastTake}
use Rattle.world.proofs.schedule.last_takes.note_row.Given as goal

abbrev pub invariant-loop-i : goal.invariant-loop-i
invariant-loop-i l =
    (l.rows.items ≡ l.fn.rows.items)
    × ((k : ℕ) (d : LastTake) → k < l.i → same_task (get_or l.rows.items k d).producer l.row.producer ≡ false)
