use Rattle.certified_claims.proofs.Leading.{never_at_once}
use Rattle.certified_claims.proofs.claim.nothing.Goals as goal

pub returns : goal.returns
returns c = λ whole searched claim. never_at_once whole claim
