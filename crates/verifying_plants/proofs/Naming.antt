-- Where outputs of a plant stand.
use Rattle.std.proofs.Common.{◌≡◌, ℕ, ◌<◌, List, Option, Some, None, length, option_map, refl, sym, subst}
use Rattle.std.specs.Prelude.{slice_get}
use Rattle.std.proofs.lemmas.Option.{slice_get_within}
use Rattle.lists.specs.Items.{items_or_none}
use Rattle.task_codes.specs.declared.task_ref.TaskRef.{TaskRef}
use Rattle.task_codes.specs.CodeValue.{CodeValue}
use Rattle.plant.specs.PlantValue.{PlantValue, ResourceValue, IsSoundPlant, code_at, tasks_at}
use Rattle.plant_claims.specs.declared.output.Output.{Output}
use Rattle.verifying_plants.specs.Names.{IsNamed}

-- a task that has a code is one of a resource
pub task_there : (plant : PlantValue) (t : TaskRef) (c : CodeValue) → IsSoundPlant plant → code_at plant t ≡ Some c → (t.resource < length plant.resources) × (t.task < length (tasks_at plant t.resource))
task_there plant t c sound coded = by (slice_get plant.resources t.resource) refl coded where
  by : (o : Option ResourceValue) → slice_get plant.resources t.resource ≡ o → slice_get (items_or_none (option_map (λ (r : ResourceValue). r.codes) o)) t.task ≡ Some c
      → (t.resource < length plant.resources) × (t.task < length (items_or_none (option_map (λ (r : ResourceValue). r.tasks) (slice_get plant.resources t.resource))))
  by None e at = cc
  by (Some r) e at = (
    slice_get_within plant.resources t.resource r e,
    subst (λ o. t.task < length (items_or_none (option_map (λ (r : ResourceValue). r.tasks) o))) (sym e) (subst (λ n. t.task < n) (sound.coded r t.resource e) (slice_get_within r.codes t.task c at)),
  )

-- where none of a resource's tasks has an output of the name, the resource has none
pub none_in_resource : (plant : PlantValue) (word : List ℕ) (resource : ℕ) → IsSoundPlant plant
    → ((j place : ℕ) → j < length (tasks_at plant resource) → IsNamed plant word (record { task = record { resource = resource; task = j }; place = place }) → ⊥)
    → (o : Output) → o.task.resource ≡ resource → IsNamed plant word o → ⊥
none_in_resource plant word resource sound none o same named =
    let there = task_there plant o.task named.bool.code sound named.bool.code_is in
    none o.task.task o.place (subst (λ r. o.task.task < length (tasks_at plant r)) same there.1) (subst (λ r. IsNamed plant word (record { task = record { resource = r; task = o.task.task }; place = o.place })) same named)

-- where no resource has one, the plant has none
pub none_in_plant : (plant : PlantValue) (word : List ℕ) → IsSoundPlant plant → ((o : Output) → o.task.resource < length plant.resources → IsNamed plant word o → ⊥) → (o : Output) → IsNamed plant word o → ⊥
none_in_plant plant word sound none o named = none o (task_there plant o.task named.bool.code sound named.bool.code_is).0 named
