use Rattle.needed_networks.proofs.CountedScans
use Rattle.needed_networks.proofs.laws.counts_follow.Goals as goal

pub returns : goal.returns
returns c = Rattle.needed_networks.proofs.CountedScans.counts_follow
