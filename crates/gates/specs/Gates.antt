-- What gates say of variables.
use Rattle.std.specs.Prelude.{◌≡◌, ℕ, ◌<◌, ◌&&◌, List, Bool, false, Some, slice_get}
use Rattle.gates.specs.declared.gates.Gate.{Gate}
use Rattle.gates.specs.declared.gates.Gate.TheVariants.{Off, Input, And}
use Rattle.gates.specs.Signals.{signal_value}

-- a variable of this value is what its gate says; an input may be both
abbrev pub IsGate : Bool → (ℕ → Bool) → Gate → Type 0
IsGate on v Off = on ≡ false
IsGate on v (Input number) = Unit {0}
IsGate on v (And left right) = on ≡ (signal_value v left && signal_value v right)

-- each variable is what its gate says
abbrev pub Agrees : (ℕ → Bool) → List Gate → Type 0
Agrees v gates = (k : ℕ) (g : Gate) → slice_get gates k ≡ Some g → IsGate (v k) v g

-- what agrees with the gates now agreed with those before, and this holds of it
abbrev pub IsBuilt : List Gate → List Gate → ((ℕ → Bool) → Type 0) → Type 0
IsBuilt old new P = (v : ℕ → Bool) → Agrees v new → Agrees v old × P v

-- the variables are what the gates say where the inputs have these values
pub record AreValues (inputs : ℕ → Bool) (gates : List Gate) (v : ℕ → Bool) : Type 0 where
  pub agree : Agrees v gates
  pub given : (k number : ℕ) → slice_get gates k ≡ Some (Input number) → v k ≡ inputs number

-- whatever the inputs are, there are such values
abbrev pub HaveValues : List Gate → Type 0
HaveValues gates = (inputs : ℕ → Bool) → (v : ℕ → Bool) × AreValues inputs gates v

-- the gate reads variables below this number alone
abbrev pub IsBefore : ℕ → Gate → Type 0
IsBefore k Off = Unit {0}
IsBefore k (Input number) = Unit {0}
IsBefore k (And left right) = (left.variable < k) × (right.variable < k)

-- each gate reads variables before it alone
abbrev pub IsOrdered : List Gate → Type 0
IsOrdered gates = (k : ℕ) (g : Gate) → slice_get gates k ≡ Some g → IsBefore k g
