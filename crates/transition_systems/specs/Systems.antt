-- What a transition system does.
use Rattle.std.specs.Prelude.{◌≡◌, ◌≤◌, ℕ, ⊤, List, [], ◌∷◌, Bool, true, false, length, map}
use Rattle.gates.specs.declared.signal.Signal.{Signal}
use Rattle.gates.specs.Signals.{signal_value}
use Rattle.gates.specs.Gates.{Agrees}
use Rattle.transition_systems.specs.declared.system.TransitionSystem.{TransitionSystem}

-- signals under these values of the variables
abbrev pub bits_at : (ℕ → Bool) → List Signal → List Bool
bits_at v signals = map (signal_value v) signals

-- the variables are what the gates say, in this state and under this row of inputs
pub record AreValuesAt (t : TransitionSystem) (state row : List Bool) (v : ℕ → Bool) : Type 0 where
  pub agree : Agrees v t.gates
  pub state_is : bits_at v t.state.items ≡ state
  pub row_is : bits_at v t.inputs.items ≡ row

-- from this state on, as long as the rows keep the constraint, none is bad
abbrev pub NeverBadFrom : TransitionSystem → List Bool → List (List Bool) → Type 0
NeverBadFrom t state [] = ⊤
NeverBadFrom t state (row ∷ rows) = (v : ℕ → Bool) → AreValuesAt t state row v → signal_value v t.constraint ≡ true
    → (signal_value v t.bad ≡ false) × NeverBadFrom t (bits_at v t.next.items) rows

-- so it is from the first state on, whatever the rows are
abbrev pub NeverBad : TransitionSystem → Type 0
NeverBad t = (rows : List (List Bool)) → NeverBadFrom t t.first.items rows

-- so it is for so many rows or fewer
abbrev pub NeverBadWithin : TransitionSystem → ℕ → Type 0
NeverBadWithin t count = (rows : List (List Bool)) → length rows ≤ count → NeverBadFrom t t.first.items rows

-- the system goes on from each state under each row
pub record IsWhole (t : TransitionSystem) : Type 0 where
  pub first_fits : length t.first.items ≡ length t.state.items
  pub next_fits : length t.next.items ≡ length t.state.items
  pub steps : (state row : List Bool) → length state ≡ length t.state.items → length row ≡ length t.inputs.items
      → (v : ℕ → Bool) × AreValuesAt t state row v
