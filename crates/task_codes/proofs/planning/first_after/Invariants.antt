use Rattle.std.proofs.Common.{ℕ, ◌<◌, ◌≤◌, slice_index_or}
use Rattle.task_codes.specs.declared.slot.Slot.{Slot}
use Rattle.task_codes.specs.Steps.Slots.{NoneDue}
use Rattle.task_codes.proofs.planning.first_after.Given as goal

abbrev pub invariant-loop-slot : goal.invariant-loop-slot
invariant-loop-slot l = record {
  above : l.moment < l.first;
  end : l.first ≤ l.end;
  none : (k : ℕ) → k < l.slot-index → (d : Slot) → NoneDue (slice_index_or l.order k d) l.moment l.first;
}
