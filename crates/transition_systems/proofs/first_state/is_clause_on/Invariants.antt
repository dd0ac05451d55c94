use Rattle.std.proofs.Common.{◌≡◌, false, take}
use Rattle.clauses.specs.Clauses.{clause_value}
use Rattle.gates.specs.Signals.{bit_of}
use Rattle.transition_systems.proofs.first_state.is_clause_on.Given as goal

abbrev pub invariant-loop-literal : goal.invariant-loop-literal
invariant-loop-literal l = clause_value (bit_of l.state) (take l.literal-index l.clause) ≡ false
