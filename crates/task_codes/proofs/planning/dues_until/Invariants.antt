use Rattle.std.proofs.Common.{◌≡◌, ◌<◌, ◌≤◌, ◌-◌, ◌+◌, length}
use Rattle.task_codes.specs.Steps.Slots.{dues_until}
use Rattle.task_codes.proofs.planning.dues_until.Given as goal

abbrev pub invariant-moments : goal.invariant-moments
invariant-moments l = record {
  begun : 0 < l.moment;
  end : l.moment ≤ l.end;
  last : l.end ≡ l.until + 1;
  few : length l.dues.items ≤ 100000;
  so_far : l.dues.items ≡ dues_until l.order (l.moment - 1);
}

abbrev pub decreases-moments : goal.decreases-moments
decreases-moments l = l.end - l.moment
