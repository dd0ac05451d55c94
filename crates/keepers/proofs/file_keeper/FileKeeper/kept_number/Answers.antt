use Rattle.std.proofs.Common.{rules}
use Rattle.keepers.proofs.KeptFiles.{found_read}
use Rattle.keepers.proofs.file_keeper.FileKeeper.kept_number.Goals as goal

pub returns-clause-found : goal.returns-clause-found
returns-clause-found g c = search (rules, found_read)
