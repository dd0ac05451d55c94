use Rattle.std.proofs.Common.{◌≡◌, ℕ, Bool, take}
use Rattle.clauses.specs.Clauses.{clause_value}
use Rattle.gates.specs.Signals.{bit_of}
use Rattle.transition_systems.specs.Systems.{bits_at}
use Rattle.transition_systems.proofs.over_signals.clause_over.Given as goal

abbrev pub invariant-loop-literal : goal.invariant-loop-literal
invariant-loop-literal l = (v : ℕ → Bool)
    → clause_value v l.over.items ≡ clause_value (bit_of (bits_at v l.signals)) (take l.literal-index l.clause)
