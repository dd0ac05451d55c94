-- What is built by calls one after the other.
use Rattle.std.proofs.Common.{ℕ, Bool, List, Result, Ok, Err, IfOk}
use Rattle.gates.specs.declared.gates.Gate.{Gate}
use Rattle.gates.specs.Gates.{Agrees, IsBuilt}

-- what the last call says, where what agrees with the gates in between agreed with those before
pub built_by : {A E : Type 0} (old mid new : List Gate) (P Q : A → (ℕ → Bool) → Type 0) → ((v : ℕ → Bool) → Agrees v mid → Agrees v old)
    → ((x : A) (v : ℕ → Bool) → Agrees v mid → P x v → Q x v) → (r : Result A E)
    → IfOk r (λ x. IsBuilt mid new (P x)) → IfOk r (λ x. IsBuilt old new (Q x))
built_by old mid new P Q before says (Ok x) built = λ v agrees. let is = built v agrees in (before v is.0, says x v is.0 is.1)
built_by old mid new P Q before says (Err e) built = tt
