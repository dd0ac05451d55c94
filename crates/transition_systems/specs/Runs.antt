-- Runs on which a transition system is bad.
use Rattle.std.specs.Prelude.{◌≡◌, ◌⊎◌, ℕ, List, [], ◌∷◌, Bool, true}
use Rattle.std.specs.Global.{Vec}
use Rattle.gates.specs.Signals.{signal_value}
use Rattle.transition_systems.specs.declared.system.TransitionSystem.{TransitionSystem}
use Rattle.transition_systems.specs.Systems.{AreValuesAt, bits_at}

-- from this state on the rows keep the constraint, up to one under which the system is bad
abbrev pub IsBadAlong : TransitionSystem → List Bool → List (Vec Bool) → Type 0
IsBadAlong t state [] = ⊥
IsBadAlong t state (row ∷ rows) = (v : ℕ → Bool) × (AreValuesAt t state row.items v × ((signal_value v t.constraint ≡ true)
    × ((signal_value v t.bad ≡ true) ⊎ IsBadAlong t (bits_at v t.next.items) rows)))

-- so it is from the first state on
abbrev pub IsBadRun : TransitionSystem → List (Vec Bool) → Type 0
IsBadRun t rows = IsBadAlong t t.first.items rows
