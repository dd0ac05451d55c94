use Rattle.std.proofs.Common.{◌≡◌, length, take}
use Rattle.traces.specs.Moments.{made_at, of_events}
use Rattle.traces.proofs.evaluated_moments.of_events.Given as goal

abbrev pub invariant-loop-entry : goal.invariant-loop-entry
invariant-loop-entry l = record {
  many : length l.moments.items ≡ l.count;
  made : made_at l.moments.items ≡ of_events l.count (take l.entry-index l.log);
}
