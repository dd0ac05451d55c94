-- Runs, step by step.
use Rattle.std.proofs.Common.{◌≡◌, ℕ, ◌+◌, ◌<◌, Bool, true, List, ◌∷◌, drop, length, get_or, ap, subst, sym, ◌∙◌}
use Rattle.std.proofs.lemmas.List.{drop_more}
use Rattle.std.specs.Prelude.{◌⊎◌}
use Rattle.std.specs.Global.{Vec}
use Rattle.gates.specs.Signals.{signal_value}
use Rattle.transition_systems.specs.declared.system.TransitionSystem.{TransitionSystem}
use Rattle.transition_systems.specs.Systems.{AreValuesAt, bits_at}
use Rattle.transition_systems.specs.Runs.{IsBadAlong}

-- a run is bad from a state on, where this row keeps the constraint, and is bad or goes on to where it is
pub bad_from : (t : TransitionSystem) (rows : List (Vec Bool)) (i : ℕ) (row : Vec Bool) (state : List Bool) (v : ℕ → Bool)
    → i < length rows → row ≡ get_or rows i row → AreValuesAt t state row.items v → signal_value v t.constraint ≡ true
    → (signal_value v t.bad ≡ true) ⊎ IsBadAlong t (bits_at v t.next.items) (drop (i + 1) rows) → IsBadAlong t state (drop i rows)
bad_from t rows i row state v lt is at given rest =
    subst (λ (rs : List (Vec Bool)). IsBadAlong t state rs)
    (ap (λ r. r ∷ drop (i + 1) rows) is ∙ sym (drop_more rows i row lt))
    (v, (at, (given, rest)))

-- values in a state under a row, where these are the same
pub values_where : (t : TransitionSystem) (state other row its : List Bool) (v : ℕ → Bool) → other ≡ state → its ≡ row
    → AreValuesAt t other its v → AreValuesAt t state row v
values_where t state other row its v e f are =
    subst (λ (r : List Bool). AreValuesAt t state r v) f (subst (λ (s : List Bool). AreValuesAt t s its v) e are)
