-- What the clauses of a certificate say of a transition system.
use Rattle.std.specs.Prelude.{◌≡◌, ℕ, List, Bool, true, false}
use Rattle.std.specs.Global.{Vec}
use Rattle.clauses.specs.declared.literal.Literal.{Literal}
use Rattle.clauses.specs.Clauses.{AreTrue}
use Rattle.gates.specs.Signals.{bit_of, signal_value}
use Rattle.transition_systems.specs.declared.system.TransitionSystem.{TransitionSystem}
use Rattle.transition_systems.specs.Systems.{AreValuesAt, bits_at}

-- the clauses, each variable the number of a bit, are TRUE of a state
abbrev pub HoldOf : List (Vec Literal) → List Bool → Type 0
HoldOf clauses state = AreTrue (bit_of state) clauses

-- where clauses hold of a state and the row keeps the constraint, the system isn't bad, and others hold of the next state
pub record LeadTo (t : TransitionSystem) (clauses next : List (Vec Literal)) : Type 0 where
  pub safe : (state row : List Bool) (v : ℕ → Bool) → HoldOf clauses state → AreValuesAt t state row v
      → signal_value v t.constraint ≡ true → signal_value v t.bad ≡ false
  pub kept : (state row : List Bool) (v : ℕ → Bool) → HoldOf clauses state → AreValuesAt t state row v
      → signal_value v t.constraint ≡ true → HoldOf next (bits_at v t.next.items)

-- the clauses hold of the first state, and wherever they hold, they hold of the next state too
pub record AreInductive (t : TransitionSystem) (clauses : List (Vec Literal)) : Type 0 where
  pub at_first : HoldOf clauses t.first.items
  pub ever : LeadTo t clauses clauses
