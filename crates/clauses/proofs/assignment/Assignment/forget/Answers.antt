use Rattle.std.proofs.Common.{arith}
use Rattle.clauses.proofs.Known.{all_past}
use Rattle.clauses.proofs.assignment.Assignment.forget.Goals as goal

pub returns-in-Some : goal.returns-in-Some
returns-in-Some c =
    λ _. all_past c.self.inside.round c.in-Some.next c.self.inside.assigned.items (omega (arith, c.in-Some.ensures)) c.self.invariant
