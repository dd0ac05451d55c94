use Rattle.std.proofs.Common.{◌≡◌, ◌++◌}
use Rattle.traces.specs.Moments.{made_at}
use Rattle.traces.specs.Outputs.{task_tracks}
use Rattle.traces.proofs.outputs.push_outputs.Given as goal

abbrev pub invariant-loop-output : goal.invariant-loop-output
invariant-loop-output l = l.tracks.items ≡ l.initial.tracks.items ++ task_tracks l.plant (made_at l.moments) l.task l.code l.output
