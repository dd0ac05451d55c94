use Rattle.std.proofs.Common.{take}
use Rattle.transition_systems.specs.Certificates.{HoldOf}
use Rattle.transition_systems.proofs.first_state.hold_of.Given as goal

abbrev pub invariant-loop-clause : goal.invariant-loop-clause
invariant-loop-clause l = HoldOf (take l.clause-index l.clauses) l.state
