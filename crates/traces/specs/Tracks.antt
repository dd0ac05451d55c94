-- Variables with their values at each of some moments.
use Rattle.std.specs.Prelude.{ℕ, ◌-◌, ◌==◌, ◌&&◌, if◌then◌else◌, List, Bool, true, false, not, Option, None, Some, bytes_eq, slice_get}
use Rattle.std.specs.Ordering.{int_eq}
use Rattle.std_blocks.specs.declared.value.Value.{Value}
use Rattle.std_blocks.specs.declared.value.Value.TheVariants.{Bool as BoolValue, Int as IntValue, Time as TimeValue}

-- the names of a resource of a plant, and of a program there
pub record ScopeValue : Type 0 where
  pub resource : List ℕ
  pub program : List ℕ

-- a variable: where it stands, if in a plant; its name; its value at each moment
pub record TrackValue : Type 0 where
  pub scope : Option ScopeValue
  pub name : List ℕ
  pub values : List Value

-- the value of a variable at a moment
abbrev pub value_at : TrackValue → ℕ → Option Value
value_at t k = slice_get t.values k

-- the value at the moment before
abbrev pub value_before : TrackValue → ℕ → Option Value
value_before t k = if k == 0 then None else slice_get t.values (k - 1)

-- two values of one kind are the same
abbrev pub is_same : Value → Value → Bool
is_same (BoolValue true) (BoolValue other) = other
is_same (BoolValue false) (BoolValue other) = not other
is_same (BoolValue on) (IntValue n) = false
is_same (BoolValue on) (TimeValue t) = false
is_same (IntValue n) (BoolValue on) = false
is_same (IntValue n) (IntValue m) = int_eq n m
is_same (IntValue n) (TimeValue t) = false
is_same (TimeValue t) (BoolValue on) = false
is_same (TimeValue t) (IntValue n) = false
is_same (TimeValue t) (TimeValue s) = t == s

-- two variables stand in the same program, or both in none
abbrev pub is_same_scope : Option ScopeValue → Option ScopeValue → Bool
is_same_scope None None = true
is_same_scope None (Some s) = false
is_same_scope (Some s) None = false
is_same_scope (Some s) (Some t) = bytes_eq s.resource t.resource && bytes_eq s.program t.program
