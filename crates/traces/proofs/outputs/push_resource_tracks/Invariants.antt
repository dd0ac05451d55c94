use Rattle.std.proofs.Common.{◌≡◌, ◌++◌}
use Rattle.traces.specs.Moments.{made_at}
use Rattle.traces.specs.Outputs.{resource_tracks}
use Rattle.traces.proofs.outputs.push_resource_tracks.Given as goal

abbrev pub invariant-loop-task : goal.invariant-loop-task
invariant-loop-task l = l.tracks.items ≡ l.initial.tracks.items ++ resource_tracks l.plant (made_at l.moments) l.resource l.task
