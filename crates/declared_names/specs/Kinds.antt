-- The kinds of values, of what addresses hold, and of inputs.
use Rattle.std.specs.Prelude.{ℕ, List, false, pos, Option, Some, None, slice_get}
use Rattle.std.specs.Option.{option_and_then}
use Rattle.std_blocks.specs.declared.value.Value.{Value}
use Rattle.std_blocks.specs.declared.value.Value.TheVariants.{Bool as BoolValue, Int as IntValue, Time as TimeValue}
use Rattle.words.specs.declared.address.Space.{Space}
use Rattle.words.specs.declared.address.Space.TheVariants.{Bit, Word}
use Rattle.declared_names.specs.declared.declarations.Kind.{Kind}
use Rattle.declared_names.specs.declared.declarations.Kind.TheVariants as kind
use Rattle.declared_names.specs.declared.declarations.Declared.{Declared}
use Rattle.declared_names.specs.declared.declarations.Declared.TheVariants.{Input, Output, Local, Instance}
use Rattle.declared_names.specs.declared.declarations.Declaration.{Declaration}

-- the kind of a value
abbrev pub kind_of : Value → Kind
kind_of (BoolValue b) = kind.Bool
kind_of (IntValue n) = kind.Int
kind_of (TimeValue t) = kind.Time

-- a variable is FALSE, 0 or T#0ms at first
abbrev pub value_first : Kind → Value
value_first kind.Bool = BoolValue false
value_first kind.Int = IntValue (pos 0)
value_first kind.Time = TimeValue 0

-- what a space of addresses holds
abbrev pub kind_of_space : Space → Kind
kind_of_space Bit = kind.Bool
kind_of_space Word = kind.Int

-- the kind of a variable that is an input
abbrev pub input_kind : Declared → Option Kind
input_kind (Input k) = Some k
input_kind (Output k) = None
input_kind (Local k) = None
input_kind (Instance b) = None

-- the kind of the input at a place
abbrev pub input_kind_at : List Declaration → ℕ → Option Kind
input_kind_at ds place = option_and_then (λ (d : Declaration). input_kind d.declared) (slice_get ds place)
