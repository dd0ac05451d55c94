-- No variable is TRUE at first.
use Rattle.std.proofs.Common.{◌≡◌, ℕ, zero, suc, List, [], ◌∷◌, true, Some}
use Rattle.std_blocks.specs.declared.value.Value.TheVariants as value
use Rattle.declared_names.specs.declared.declarations.Declaration.{Declaration}
use Rattle.declared_names.specs.declared.declarations.Declared.{Declared}
use Rattle.declared_names.specs.declared.declarations.Declared.TheVariants.{Input, Output, Local, Instance}
use Rattle.declared_names.specs.declared.declarations.Kind.TheVariants as kind
use Rattle.scan_steps.specs.First.{slot_first}
use Rattle.scan_steps.specs.Slots.{variable_at, variable_of}
use Rattle.text_commands.specs.Restarts.{first_slots}

first_not_true : (d : Declared) → variable_of (slot_first d) ≡ Some (value.Bool true) → ⊥
first_not_true (Input kind.Bool) is = absurd cc
first_not_true (Input kind.Int) is = absurd cc
first_not_true (Input kind.Time) is = absurd cc
first_not_true (Output kind.Bool) is = absurd cc
first_not_true (Output kind.Int) is = absurd cc
first_not_true (Output kind.Time) is = absurd cc
first_not_true (Local kind.Bool) is = absurd cc
first_not_true (Local kind.Int) is = absurd cc
first_not_true (Local kind.Time) is = absurd cc
first_not_true (Instance b) is = absurd cc

pub first_not_on : (ds : List Declaration) (place : ℕ) → variable_at (first_slots ds) place ≡ Some (value.Bool true) → ⊥
first_not_on [] place is = absurd cc
first_not_on (d ∷ ds) zero is = first_not_true d.declared is
first_not_on (d ∷ ds) (suc place) is = first_not_on ds place is
