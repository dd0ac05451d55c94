use Rattle.std.proofs.Common.{take}
use Rattle.transition_systems.specs.Steps.Inductive.{AreShown}
use Rattle.transition_systems.proofs.obligations.check_kept.Given as goal

abbrev pub invariant-loop-place : goal.invariant-loop-place
invariant-loop-place l = AreShown l.steps (take l.place l.clauses) l.next
