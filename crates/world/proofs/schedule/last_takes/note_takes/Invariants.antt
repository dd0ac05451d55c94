-- The rows tell of the takes so far, from the last on.
use Rattle.std.proofs.Common.{◌≡◌, ◌-◌, drop, length}
use Rattle.task_codes.specs.declared.task_ref.TaskRef.{TaskRef}
use Rattle.world.specs.Steps.Tables.{told_in, told_with}
use Rattle.world.proofs.schedule.last_takes.note_takes.Given as goal

abbrev pub invariant-loop-i : goal.invariant-loop-i
invariant-loop-i l =
    (q : TaskRef) → told_in l.rows.items q ≡ told_with l.incarnation (drop (length l.takes - l.i) l.takes) q (told_in l.fn.rows.items q)
