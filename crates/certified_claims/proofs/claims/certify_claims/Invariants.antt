use Rattle.std.proofs.Common.{take}
use Rattle.verifying.specs.Preparing.{searched_of}
use Rattle.certified_claims.specs.Certified.{AreCertified}
use Rattle.certified_claims.proofs.claims.certify_claims.Given as goal

abbrev pub invariant-loop-claim : goal.invariant-loop-claim
invariant-loop-claim l =
    AreCertified l.prepared.whole (searched_of l.prepared.slice l.prepared.whole) (take l.claim-index l.prepared.claims.items) l.verdicts.items
