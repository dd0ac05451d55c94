use Rattle.std.proofs.Common.{sym}
use Rattle.verifying.specs.Preparing.{searched_of}
use Rattle.certified_claims.proofs.RunsMet.{no_first, searched_given}
use Rattle.certified_claims.proofs.meeting.meeting_of.Goals as goal

pub certify_claim-requires : goal.certify_claim-requires
certify_claim-requires c =
    let p = c.args.prepared.now in
    (p.whole.given, 0, searched_given p.whole (searched_of p.slice p.whole) c.requires.0 p.idle.items c.requires.1, rw c.given.ensures at (sym c.in-Some.ensures.value))

pub returns-in_ok-verdict-in-Some : goal.returns-in_ok-verdict-in-Some
returns-in_ok-verdict-in-Some c =
    let p = c.args.prepared.now in
    c.meeting_by.ensures p.whole (searched_of p.slice p.whole) _ (rw c.given.ensures at (sym c.in-Some.ensures.value)) c.in_ok-verdict-in-Some.ensures

pub returns-in-None : goal.returns-in-None
returns-in-None c = λ some. absurd (some (no_first c.args.prepared.now.whole.given (rw c.given.ensures at (sym c.in-None.ensures.value))))
