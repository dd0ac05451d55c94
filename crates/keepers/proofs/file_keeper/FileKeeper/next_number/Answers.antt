use Rattle.std.proofs.Common.{rules}
use Rattle.keepers.proofs.KeptFiles.{keeps_none_from}
use Rattle.keepers.proofs.file_keeper.FileKeeper.next_number.Goals as goal

pub returns-then-kept-self : goal.returns-then-kept-self
returns-then-kept-self g c = search (rules, keeps_none_from)
