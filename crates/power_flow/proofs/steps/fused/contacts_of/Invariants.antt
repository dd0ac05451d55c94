use Rattle.std.proofs.Common.{◌≡◌, take}
use Rattle.power_flow.specs.Steps.Fused.{contacts_in, singles}
use Rattle.power_flow.proofs.steps.fused.contacts_of.Given as goal

abbrev pub invariant-loop-step : goal.invariant-loop-step
invariant-loop-step l = contacts_in l.row l.contacts.items ≡ singles (take l.step-index l.steps)
