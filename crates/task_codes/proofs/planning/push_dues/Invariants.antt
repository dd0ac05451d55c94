use Rattle.std.proofs.Common.{◌≡◌, ◌++◌, ◌≤◌, length, take}
use Rattle.task_codes.specs.Steps.Slots.{dues_at}
use Rattle.task_codes.proofs.planning.push_dues.Given as goal

abbrev pub invariant-loop-slot : goal.invariant-loop-slot
invariant-loop-slot l = record {
  so_far : l.dues.items ≡ l.fn.dues.items ++ dues_at (take l.slot-index l.order) l.moment;
  few : length l.dues.items ≤ 100000;
}
