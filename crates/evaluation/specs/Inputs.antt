-- Field inputs: addresses with their values.
use Rattle.std.specs.Prelude.{◌==◌, ◌&&◌, Bool, true, false, List, Option, Some, None}
use Rattle.std.specs.List.{find}
use Rattle.std_blocks.specs.declared.value.Value.{Value}
use Rattle.std_blocks.specs.declared.value.Value.TheVariants.{Bool as BoolValue, Int as IntValue}
use Rattle.declared_names.specs.Kinds.{value_first, kind_of_space}
use Rattle.words.specs.declared.address.Space.{Space}
use Rattle.words.specs.declared.address.Space.TheVariants.{Bit as BitSpace, Word as WordSpace}
use Rattle.words.specs.declared.address.Address.{Address}
use Rattle.evaluation.specs.declared.field_input.FieldInput.{FieldInput}
use Rattle.evaluation.specs.declared.field_input.FieldInput.TheVariants.{Bit, Word}

-- where a listed input stands
abbrev pub address_of : FieldInput → Address
address_of (Bit n v) = record { space = BitSpace; number = n }
address_of (Word n v) = record { space = WordSpace; number = n }

-- what a listed input holds
abbrev pub value_of : FieldInput → Value
value_of (Bit n v) = BoolValue v
value_of (Word n v) = IntValue v

abbrev pub same_space : Space → Space → Bool
same_space BitSpace BitSpace = true
same_space BitSpace WordSpace = false
same_space WordSpace BitSpace = false
same_space WordSpace WordSpace = true

-- two addresses are one
abbrev pub same_address : Address → Address → Bool
same_address a b = same_space a.space b.space && a.number == b.number

-- the value of the input that was found, else FALSE or 0
abbrev pub value_or_first : Address → Option FieldInput → Value
value_or_first a None = value_first (kind_of_space a.space)
value_or_first a (Some i) = value_of i

-- what an address holds: the value that is listed, else FALSE or 0
unfoldable pub field_value : List FieldInput → Address → Value
field_value inputs a = value_or_first a (find (λ i. same_address (address_of i) a) inputs)
