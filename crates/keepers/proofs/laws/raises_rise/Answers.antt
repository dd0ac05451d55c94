use Rattle.keepers.proofs.Succeeding.{raises_rise}
use Rattle.keepers.proofs.laws.raises_rise.Goals as goal

pub returns : goal.returns
returns g c = raises_rise g.F.Folder.replace_gives g.F.Folder.file
