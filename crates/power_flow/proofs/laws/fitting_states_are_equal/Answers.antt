use Rattle.power_flow.proofs.Ladders.FittingStates.{fitting_states}
use Rattle.power_flow.proofs.laws.fitting_states_are_equal.Goals as goal

pub returns : goal.returns
returns c = fitting_states
