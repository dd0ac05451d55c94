use Rattle.std.proofs.Common.{◌≡◌, take}
use Rattle.traces.specs.Diagram.{longest_label}
use Rattle.traces.proofs.scale.longest_label.Given as goal

abbrev pub invariant-loop-track : goal.invariant-loop-track
invariant-loop-track l = l.most ≡ longest_label (take l.track-index l.tracks)
