use Rattle.power_flow.proofs.Ladders.OneLadder
use Rattle.power_flow.proofs.laws.one_ladder.Goals as goal

pub returns : goal.returns
returns c = Rattle.power_flow.proofs.Ladders.OneLadder.one_ladder
