-- The values that names and operands stand for.
use Rattle.std.specs.Prelude.{ℕ, List, [], ◌∷◌, Option, Some, None, if◌then◌else◌, slice_get}
use Rattle.std.specs.List.{before_first, after_first}
use Rattle.std.specs.Option.{option_and_then}
use Rattle.std_blocks.specs.declared.value.Value.{Value}
use Rattle.std_blocks.specs.declared.pin.Pin.{Pin}
use Rattle.std_blocks.specs.declared.pins.PinsOut.{PinsOut}
use Rattle.std_blocks.specs.Pins.{pin_of, field_value}
use Rattle.declared_names.specs.declared.declarations.Declaration.{Declaration}
use Rattle.declared_names.specs.Names.{place_of, is_dot}
use Rattle.name_faults.specs.Literals.{literal_value}
use Rattle.scan_steps.specs.declared.slot.Slot.{Slot}
use Rattle.scan_steps.specs.declared.slot.Slot.TheVariants.{Variable, Block}

-- what an output pin shows; an input pin shows nothing
abbrev pub shown_at : PinsOut → Pin → Option Value
shown_at outputs pin = if pin.left then None else Some (field_value outputs pin.field)

-- the value of a variable, or of an output pin of an instance
abbrev pub slot_value : Slot → List ℕ → Option Value
slot_value (Variable v) [] = Some v
slot_value (Variable v) (c ∷ pin) = None
slot_value (Block b) [] = None
slot_value (Block b) (c ∷ pin) = option_and_then (shown_at b.outputs) (pin_of b.state.block (c ∷ pin))

-- the value at a name, or at an output pin of it where it is an instance
abbrev pub value_at : List Declaration → List Slot → List ℕ → List ℕ → Option Value
value_at declarations slots name pin =
    option_and_then (λ k. option_and_then (λ s. slot_value s pin) (slice_get slots k)) (place_of declarations name)

-- the value that a name stands for, as `A` or `T1.Q`
unfoldable pub value_of : List Declaration → List Slot → List ℕ → Option Value
value_of declarations slots name = value_at declarations slots (before_first is_dot name) (after_first is_dot name)

-- the first value, or else the second
abbrev pub value_or : Option Value → Option Value → Option Value
value_or None other = other
value_or (Some v) other = Some v

-- the value of an operand: of a literal, or else of a name
unfoldable pub text_value : List Declaration → List Slot → List ℕ → Option Value
text_value ds slots text = value_or (literal_value text) (value_of ds slots text)
