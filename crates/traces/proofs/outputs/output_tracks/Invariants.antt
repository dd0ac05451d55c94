use Rattle.std.proofs.Common.{◌≡◌}
use Rattle.traces.specs.Moments.{made_at}
use Rattle.traces.specs.Outputs.{plant_tracks}
use Rattle.traces.proofs.outputs.output_tracks.Given as goal

abbrev pub invariant-loop-resource : goal.invariant-loop-resource
invariant-loop-resource l = l.tracks.items ≡ plant_tracks l.plant (made_at l.moments) l.resource
