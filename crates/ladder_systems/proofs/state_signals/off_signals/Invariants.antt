use Rattle.std.proofs.Common.{◌≡◌, replicate}
use Rattle.ladder_systems.specs.Steps.States.{off}
use Rattle.ladder_systems.proofs.state_signals.off_signals.Given as goal

abbrev pub invariant-loop-place : goal.invariant-loop-place
invariant-loop-place l = l.signals.items ≡ replicate l._place off
