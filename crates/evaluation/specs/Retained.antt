-- What outlives a restart: the values of a task's retained variables.
use Rattle.std.specs.Prelude.{◌≡◌, List, map, fold, slice_get, slice_set, unwrap_or}
use Rattle.std.specs.List.{zip}
use Rattle.std.specs.Option.{option_and_then, option_map_or}
use Rattle.std_blocks.specs.declared.value.Value.{Value}
use Rattle.declared_names.specs.Kinds.{kind_of, value_first}
use Rattle.scan_steps.specs.Slots.{variable_at}
use Rattle.power_flow.specs.StateValue.{StateValue, with_variable}
use Rattle.task_codes.specs.declared.retained_variable.RetainedVariable.{RetainedVariable}
use Rattle.task_codes.specs.CodeValue.{CodeValue, retained_kinds}
use Rattle.evaluation.specs.States.{initial_state}

-- the values are of the kinds of the code's retained variables, one for each
abbrev pub Suits : CodeValue → List Value → Type 0
Suits c values = map kind_of values ≡ retained_kinds c

-- FALSE, 0 or T#0ms for each retained variable
abbrev pub initial_retained : CodeValue → List Value
initial_retained c = map value_first (retained_kinds c)

-- the value of a retained variable in the states of a task's programs
abbrev pub retained_value : List StateValue → RetainedVariable → Value
retained_value states v =
    unwrap_or (option_and_then (λ (s : StateValue). variable_at s.slots v.place) (slice_get states v.program))
    (value_first v.kind)

-- the values of all retained variables, programs and variables in order of declaration
abbrev pub retained_values : CodeValue → List StateValue → List Value
retained_values c states = map (retained_value states) c.retained

-- the states in which a retained variable has this value, and all else is as it was
abbrev pub with_value : List StateValue → RetainedVariable × Value → List StateValue
with_value states e =
    option_map_or (λ (s : StateValue). slice_set states e.0.program (with_variable s e.0.place e.1))
    (slice_get states e.0.program) states

-- the state of a task that begins with these values: the initial one, but for the retained variables
unfoldable pub warm_state : CodeValue → List Value → List StateValue
warm_state c values = fold with_value (initial_state c) (zip c.retained values)
