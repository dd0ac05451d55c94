use Rattle.std.proofs.lemmas.List.{take_all}
use Rattle.verifying.specs.Preparing.{searched_of}
use Rattle.certified_claims.proofs.Answering.{certified_more, there}
use Rattle.certified_claims.proofs.claims.certify_claims.Goals as goal

pub certify_claim-requires : goal.certify_claim-requires
certify_claim-requires c =
    let inside = rw c.deref-claim-items.ensures.value at c.loop-claim-test.true in
    rw c.deref-claim-items.ensures.value
    (c.args.prepared.now.claims.items, c.loop-claim.claim-index, c.requires, there c.args.prepared.now.claims.items c.loop-claim.claim-index _ inside)

pub loop-claim-preserved : goal.loop-claim-preserved
loop-claim-preserved c =
    let p = c.args.prepared.now in
    let inside = rw c.deref-claim-items.ensures.value at c.loop-claim-test.true in
    certified_more p.whole (searched_of p.slice p.whole) p.claims.items c.loop-claim.claim-index _ c.loop-claim.verdicts.items _ c.in_ok-verdict.verdict inside
    c.loop-claim.invariant (rw c.deref-claim-items.ensures.value at c.in_ok-verdict.ensures) c.in_ok-push.ensures.items

pub returns : goal.returns
returns c = rw (take_all c.loop-claim.claim-index c.args.prepared.now.claims.items (rw c.deref-claim-items.ensures.value at c.loop-claim-test.false)) at c.loop-claim.invariant
