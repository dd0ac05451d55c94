use Rattle.world.proofs.OneReading.{one_reading}
use Rattle.world.proofs.laws.one_reading.Goals as goal

pub returns : goal.returns
returns c = one_reading
