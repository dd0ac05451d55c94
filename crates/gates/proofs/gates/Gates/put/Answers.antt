use Rattle.std.proofs.Common.{◌≡◌, ℕ, Bool, true, false, List, refl, ap, sym, subst}
use Rattle.std.proofs.lemmas.Bool.{and_parts, eqb-true, false≢true}
use Rattle.gates.specs.declared.signal.Signal.{Signal}
use Rattle.gates.specs.declared.gates.Gate.{Gate}
use Rattle.gates.specs.declared.gates.Gate.TheVariants.{Off, Input, And}
use Rattle.gates.specs.contracts.gates.GatePartialEq.TheImpl as of_gates
use Rattle.gates.specs.contracts.signal.SignalPartialEq.TheImpl as of_signals
use Rattle.gates.specs.Gates.{Agrees, IsGate}
use Rattle.gates.proofs.Growing.{agrees_put}
use Rattle.gates.proofs.gates.Gates.put.Goals as goal

abbrev signal_of : ℕ → Bool → Signal
signal_of n b = record { variable = n; is_negated = b }

-- signals that compare as equal are the same
same_of : (n m : ℕ) (a b : Bool) → (of_signals.eq-value).it (signal_of n a) (signal_of m b) ≡ true → signal_of n a ≡ signal_of m b
same_of n m true true e = ap (λ k. signal_of k true) (eqb-true n m (and_parts _ _ e).0)
same_of n m true false e = absurd (false≢true (and_parts _ _ e).1)
same_of n m false true e = absurd (false≢true (and_parts _ _ e).1)
same_of n m false false e = ap (λ k. signal_of k false) (eqb-true n m (and_parts _ _ e).0)

same_signal : (s t : Signal) → (of_signals.eq-value).it s t ≡ true → s ≡ t
same_signal s t e = same_of s.variable t.variable s.is_negated t.is_negated e

-- so are gates
same_gate : (g h : Gate) → (of_gates.eq-value).it g h ≡ true → g ≡ h
same_gate Off Off e = refl
same_gate Off (Input m) e = absurd (false≢true e)
same_gate Off (And l r) e = absurd (false≢true e)
same_gate (Input n) Off e = absurd (false≢true e)
same_gate (Input n) (Input m) e = ap Input (eqb-true n m e)
same_gate (Input n) (And l r) e = absurd (false≢true e)
same_gate (And l r) Off e = absurd (false≢true e)
same_gate (And l r) (Input m) e = absurd (false≢true e)
same_gate (And l r) (And m s) e =
    let parts = and_parts _ _ e in
    let one = same_signal l m parts.0 in
    let two = same_signal r s parts.1 in
    cc

pub returns : goal.returns
returns c = λ v agrees.
    let stored = c.in_ok-variable.ensures.stored in
    let is : c.args.gate ≡ stored.0 = same_gate c.args.gate stored.0 stored.2 in (
      subst (λ (gs : List Gate). Agrees v gs) c.self.view_is
          (agrees_put _ c.self.inside.gates.keys c.insert_full.new.self.keys c.args.gate c.in_ok-variable.ensures.keys v agrees),
      subst (λ (g : Gate). IsGate (v c.in_ok-variable.variable) v g) (sym is) (agrees c.in_ok-variable.variable stored.0 stored.1),
    )
