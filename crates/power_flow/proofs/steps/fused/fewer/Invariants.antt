use Rattle.std.proofs.Common.{◌≡◌}
use Rattle.power_flow.specs.Steps.Fused.{singles}
use Rattle.power_flow.proofs.steps.fused.fewer.Given as goal

abbrev pub invariant-loop-step : goal.invariant-loop-step
invariant-loop-step l = singles l.fewer.items ≡ singles l.yielded
