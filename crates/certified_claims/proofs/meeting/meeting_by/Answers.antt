use Rattle.std.proofs.Common.{sym, ◌∙◌}
use Rattle.certified_claims.proofs.RunsMet.{met, unmet}
use Rattle.certified_claims.proofs.meeting.meeting_by.Goals as goal

pub returns-in-Holds : goal.returns-in-Holds
returns-in-Holds c = λ u v place at is. unmet u place at (rw c.in-Holds.is at is).0

pub returns-else-is_empty : goal.returns-else-is_empty
returns-else-is_empty c = λ u v place at is some.
    let rows = c.in-Fails.rows in
    met u place rows.items rows.len (rw c.in-Fails.is at is) rows.ok.0 (sym c.is_empty.ensures ∙ c.if-is_empty.false)
