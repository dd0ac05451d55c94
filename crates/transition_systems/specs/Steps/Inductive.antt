-- What a formula, and steps from it, tell of a step of a system.
use Rattle.std.specs.Prelude.{◌≡◌, ℕ, List, Bool, true, false}
use Rattle.std.specs.Global.{Vec}
use Rattle.clauses.specs.declared.literal.Literal.{Literal}
use Rattle.clauses.specs.declared.step.Step.{Step}
use Rattle.clauses.specs.Clauses.{AreFollowing, AreTrue}
use Rattle.gates.specs.declared.signal.Signal.{Signal}
use Rattle.gates.specs.Signals.{signal_value}
use Rattle.gates.specs.Gates.{Agrees}
use Rattle.transition_systems.specs.declared.system.TransitionSystem.{TransitionSystem}
use Rattle.transition_systems.specs.Systems.{bits_at}
use Rattle.transition_systems.specs.Certificates.{HoldOf}

-- the formula holds of a step from a state of which the clauses hold, under a row that keeps the constraint
abbrev pub IsFormula : TransitionSystem → List (Vec Literal) → List (Vec Literal) → Type 0
IsFormula t clauses formula = (v : ℕ → Bool) → Agrees v t.gates → signal_value v t.constraint ≡ true
    → HoldOf clauses (bits_at v t.state.items) → AreTrue v formula

-- what the steps tell, if they follow, is that the clauses hold of these signals
abbrev pub AreShown : List Step → List (Vec Literal) → List Signal → Type 0
AreShown steps clauses signals = (formula : List (Vec Literal)) → AreFollowing formula steps → (v : ℕ → Bool) → AreTrue v formula
    → HoldOf clauses (bits_at v signals)

-- what the steps tell, if they follow, is that a signal is FALSE
abbrev pub IsShownFalse : List Step → Signal → Type 0
IsShownFalse steps s = (formula : List (Vec Literal)) → AreFollowing formula steps → (v : ℕ → Bool) → AreTrue v formula
    → signal_value v s ≡ false
