-- What is built of ANDs.
use Rattle.std.proofs.Common.{◌≡◌, ◌&&◌, ◌||◌, ℕ, Bool, not, cond, List, Result, Ok, Err, IfOk, ap, ◌∙◌}
use Rattle.gates.specs.declared.signal.Signal.{Signal}
use Rattle.gates.specs.declared.gates.Gate.{Gate}
use Rattle.gates.specs.Signals.{signal_value}
use Rattle.gates.specs.Gates.{IsBuilt, IsGate}
use Rattle.gates.proofs.AndLaws.{chosen_by}

-- a choice
pub choice_built : {E : Type 0} (old mid late new : List Gate) (condition first second chosen not_condition not_chosen : Signal)
    → IsBuilt old mid (λ v. signal_value v chosen ≡ (signal_value v condition && signal_value v first))
    → ((v : ℕ → Bool) → signal_value v not_condition ≡ not (signal_value v condition))
    → IsBuilt mid late (λ v. signal_value v not_chosen ≡ (signal_value v not_condition && signal_value v second))
    → (r : Result Signal E)
    → IfOk r (λ s. IsBuilt late new (λ v. signal_value v s ≡ (signal_value v chosen || signal_value v not_chosen)))
    → IfOk r (λ s. IsBuilt old new (λ v. signal_value v s ≡ cond (signal_value v condition) (signal_value v first) (signal_value v second)))
choice_built old mid late new condition first second chosen not_condition not_chosen one opposite two (Ok s) built = λ v agrees.
    let third = built v agrees in
    let other = two v third.0 in
    let begun = one v other.0 in (
      begun.0,
      third.1 ∙ chosen_by (signal_value v condition) (signal_value v first) (signal_value v second) (signal_value v chosen)
          (signal_value v not_condition) (signal_value v not_chosen) begun.1 (opposite v) other.1,
    )
choice_built old mid late new condition first second chosen not_condition not_chosen one opposite two (Err e) built = tt

-- the same with another value at the first place, or at the second
pub first_built : {E : Type 0} (old new : List Gate) (condition first second said : Signal)
    → ((v : ℕ → Bool) → signal_value v first ≡ not (signal_value v said)) → (r : Result Signal E)
    → IfOk r (λ s. IsBuilt old new (λ v. signal_value v s ≡ cond (signal_value v condition) (signal_value v first) (signal_value v second)))
    → IfOk r (λ s. IsBuilt old new (λ v. signal_value v s ≡ cond (signal_value v condition) (not (signal_value v said)) (signal_value v second)))
first_built old new condition first second said opposite (Ok s) built = λ v agrees.
    let is = built v agrees in (is.0, is.1 ∙ ap (λ b. cond (signal_value v condition) b (signal_value v second)) (opposite v))
first_built old new condition first second said opposite (Err e) built = tt

pub second_built : {E : Type 0} (old new : List Gate) (condition first second said : Signal)
    → ((v : ℕ → Bool) → signal_value v second ≡ not (signal_value v said)) → (r : Result Signal E)
    → IfOk r (λ s. IsBuilt old new (λ v. signal_value v s ≡ cond (signal_value v condition) (signal_value v first) (signal_value v second)))
    → IfOk r (λ s. IsBuilt old new (λ v. signal_value v s ≡ cond (signal_value v condition) (signal_value v first) (not (signal_value v said))))
second_built old new condition first second said opposite (Ok s) built = λ v agrees.
    let is = built v agrees in (is.0, is.1 ∙ ap (λ b. cond (signal_value v condition) (signal_value v first) b) (opposite v))
second_built old new condition first second said opposite (Err e) built = tt

-- what a gate says
pub gate_built : {E : Type 0} (old new : List Gate) (gate : Gate) (said : (ℕ → Bool) → Bool)
    → ((v : ℕ → Bool) (on : Bool) → IsGate on v gate → on ≡ said v) → (r : Result Signal E)
    → IfOk r (λ s. IsBuilt old new (λ v. IsGate (signal_value v s) v gate))
    → IfOk r (λ s. IsBuilt old new (λ v. signal_value v s ≡ said v))
gate_built old new gate said tells (Ok s) built = λ v agrees.
    let is = built v agrees in (is.0, tells v (signal_value v s) is.1)
gate_built old new gate said tells (Err e) built = tt

pub input_built : {E : Type 0} (old new : List Gate) (gate : Gate) (r : Result Signal E)
    → IfOk r (λ s. IsBuilt old new (λ v. IsGate (signal_value v s) v gate)) → IfOk r (λ s. IsBuilt old new (λ _. Unit {0}))
input_built old new gate (Ok s) built = λ v agrees. ((built v agrees).0, tt)
input_built old new gate (Err e) built = tt
