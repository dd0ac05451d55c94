use Rattle.needed_networks.proofs.Scanning
use Rattle.needed_networks.proofs.laws.slices_follow.Goals as goal

pub returns : goal.returns
returns c = Rattle.needed_networks.proofs.Scanning.slices_follow
