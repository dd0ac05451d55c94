-- Stores one after the other.
use Rattle.std.proofs.Common.{◌≡◌, ℕ, List, [], ◌∷◌, ◌++◌, set, refl}
use Rattle.std_blocks.specs.declared.value.Value.{Value}
use Rattle.scan_steps.specs.declared.slot.Slot.{Slot}
use Rattle.scan_steps.specs.declared.slot.Slot.TheVariants.{Variable}
use Rattle.power_flow.specs.Meaning.{stored}

-- stores in two parts
pub stored-append : (slots : List Slot) (xs ys : List (ℕ × Value)) → stored slots (xs ++ ys) ≡ stored (stored slots xs) ys
stored-append slots [] ys = refl
stored-append slots (x ∷ xs) ys = stored-append (set slots x.0 (Variable x.1)) xs ys
