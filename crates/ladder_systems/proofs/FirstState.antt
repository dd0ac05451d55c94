-- The first state of a system.
use Rattle.std.proofs.Common.{◌≡◌, ◌<◌, ◌+◌, ◌++◌, ℕ, zero, suc, length, take, get_or, List, [], ◌∷◌, Bool, true, false, not, if◌then◌else◌, Some, replicate, slice_get, refl, sym, ap, ◌∙◌}
use Rattle.std.proofs.lemmas.List.{map_push, take_more}
use Rattle.gates.specs.declared.signal.Signal.{Signal}
use Rattle.gates.specs.declared.gates.Gate.{Gate}
use Rattle.gates.specs.declared.gates.Gate.TheVariants.{And, Input, Off}
use Rattle.gates.specs.Gates.{Agrees, IsGate}
use Rattle.gates.specs.Signals.{signal_value}
use Rattle.scan_gates.specs.Encoded.{bits_at}
use Rattle.ladder_systems.specs.Steps.States.{none, off}

-- no variable is TRUE: that agrees with the first gate
pub none_agrees : Agrees none (Off ∷ [])
none_agrees zero g at = by g at
  where
    by : (g : Gate) → slice_get (Off ∷ []) zero ≡ Some g → IsGate (none zero) none g
    by Off at = refl
    by (Input n) at = absurd cc
    by (And a b) at = absurd cc
none_agrees (suc k) g at = absurd cc

-- a signal is TRUE then where it is negated
pub value_at_none : (s : Signal) → signal_value none s ≡ s.is_negated
value_at_none s = by s.is_negated
  where
    by : (b : Bool) → (if b then not false else false) ≡ b
    by true = refl
    by false = refl

-- and so many that are never TRUE aren't
pub off_at_none : (n : ℕ) → bits_at none (replicate n off) ≡ replicate n false
off_at_none zero = refl
off_at_none (suc n) = ap (λ l. false ∷ l) (off_at_none n)

-- one more value
pub values_more : (signals : List Signal) (i : ℕ) (d : Signal) (values next : List Bool) (b : Bool) → i < length signals → values ≡ bits_at none (take i signals)
    → b ≡ (get_or signals i d).is_negated → next ≡ values ++ b ∷ [] → next ≡ bits_at none (take (i + 1) signals)
values_more signals i d values next b lt was is pushed =
    pushed ∙ ap (λ l. l ++ b ∷ []) was ∙ ap (λ x. bits_at none (take i signals) ++ x ∷ []) (is ∙ sym (value_at_none (get_or signals i d)))
    ∙ sym (map_push (signal_value none) (take i signals) (get_or signals i d)) ∙ ap (bits_at none) (sym (take_more signals i d lt))
