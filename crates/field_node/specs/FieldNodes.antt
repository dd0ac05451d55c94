-- What a node with a field and a cycle is.
use Rattle.std.specs.Prelude.{◌≡◌, ℕ, Bool, true, false, Option, Some, None, is_some, All}
use Rattle.plant.specs.PlantValue.{PlantValue, tasks_at}
use Rattle.cycle.specs.declared.origin.Inlets.{Inlets}
use Rattle.cycle.specs.Cycle.{CycleValue, IsCycleOf, NoneDueBefore}
use Rattle.field_node.specs.declared.field_node.FieldNode.{FieldNode}

-- which inputs there are
abbrev pub inlets_of : Bool → Option CycleValue → Inlets
inlets_of has_field cycle = record { has_field = has_field; cycles = is_some cycle }

-- the cycle of a resource at its start, where it is wanted
abbrev pub IsCycleWanted : PlantValue → ℕ → Bool → Option CycleValue → Type 0
IsCycleWanted plant resource false cycle = cycle ≡ None
IsCycleWanted plant resource true None = ⊥
IsCycleWanted plant resource true (Some c) = IsCycleOf (tasks_at plant resource) c

-- before a moment a cycle asks for nothing
abbrev pub AsksNothingBefore : ℕ → Option CycleValue → Type 0
AsksNothingBefore moment None = Unit {0}
AsksNothingBefore moment (Some c) = All (NoneDueBefore moment) c.tasks

-- plant, resource and inputs are the same
pub record IsSameSetting {K N : Type 0} (old new : FieldNode K N) : Type 0 where
  pub plant_is : new.plant.value ≡ old.plant.value
  pub resource_is : new.resource ≡ old.resource
  pub has_field_is : new.has_field ≡ old.has_field
