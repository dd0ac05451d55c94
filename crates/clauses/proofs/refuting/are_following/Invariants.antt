use Rattle.std.proofs.Common.{take}
use Rattle.clauses.specs.Clauses.{AreFollowing}
use Rattle.clauses.proofs.refuting.are_following.Given as goal

abbrev pub invariant-loop-place : goal.invariant-loop-place
invariant-loop-place l = AreFollowing l.formula (take l.place l.steps)
