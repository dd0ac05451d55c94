-- The parts stand one behind the other.
use Rattle.std.proofs.Common.{rules, append_assoc}
use Rattle.keepers.proofs.file_keeper.FileKeeper.retained_name.Goals as goal

pub returns : goal.returns
returns g c = search (rules, append_assoc)
