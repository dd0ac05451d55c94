-- Where the outputs that words expect stand.
use Rattle.std.proofs.Common.{◌≡◌, ◌≢◌, ◌⊎◌, inl, inr, arith, ℕ, ◌+◌, ◌<◌, List, Option, Some, None, drop, length, take, refl, sym, ◌∙◌, subst}
use Rattle.std.specs.Prelude.{if◌then◌else◌, slice_get}
use Rattle.std.specs.Option.{option_and_then, option_map}
use Rattle.std.proofs.lemmas.Bool.{cases_eq}
use Rattle.std.proofs.lemmas.Option.{same_Some, slice_get_within}
use Rattle.lists.specs.Items.{items_or_none}
use Rattle.std_blocks.specs.declared.value.Value.{Value}
use Rattle.words.specs.Chars.{same_word}
use Rattle.task_codes.specs.declared.task_ref.TaskRef.{TaskRef}
use Rattle.task_codes.specs.declared.task_output.TaskOutput.{TaskOutput}
use Rattle.task_codes.specs.CodeValue.{CodeValue}
use Rattle.plant.specs.Find.{Finds}
use Rattle.plant.specs.PlantValue.{PlantValue, ResourceValue, IsSoundPlant, code_at, tasks_at}
use Rattle.world.specs.Steps.Histories.Tasks.{resource_exists}
use Rattle.tested_schedules.specs.declared.expectation.Expectation.{Expectation}
use Rattle.tested_schedules.specs.Expectations.{IsExpectation, expected_at, output_name, value_in}
use Rattle.tested_schedules.specs.Steps.Finding.{IsExpectedOf}

-- what is expected of a task is expected of one of its outputs
record IsOutput (plant : PlantValue) (t : TaskRef) (place : ℕ) : Type 0 where
  pub code : CodeValue
  pub code_is : code_at plant t ≡ Some code
  pub within : place < length code.outputs

output_there : (plant : PlantValue) (name written : List ℕ) (t : TaskRef) (place : ℕ) (v : Value) → expected_at plant name written t place ≡ Some v → IsOutput plant t place
output_there plant name written t place v is = by (code_at plant t) refl is where
  by : (c : Option CodeValue) → code_at plant t ≡ c
      → option_and_then (λ k. if same_word name (output_name plant t place) then value_in k written else None) (option_and_then (λ (x : CodeValue). option_map (λ (o : TaskOutput). o.kind) (slice_get x.outputs place)) c) ≡ Some v
      → IsOutput plant t place
  by None e is = absurd cc
  by (Some c) e is = inner (slice_get c.outputs place) refl is where
    inner : (o : Option TaskOutput) → slice_get c.outputs place ≡ o
        → option_and_then (λ k. if same_word name (output_name plant t place) then value_in k written else None) (option_map (λ (o : TaskOutput). o.kind) o) ≡ Some v
        → IsOutput plant t place
    inner None at is = absurd cc
    inner (Some o) at is = record { code = c; code_is = e; within = slice_get_within c.outputs place o at }

-- so its place is below their number
pub place_within : (plant : PlantValue) (name written : List ℕ) (t : TaskRef) (place : ℕ) (v : Value) (code : CodeValue) → code_at plant t ≡ Some code → expected_at plant name written t place ≡ Some v → place < length code.outputs
place_within plant name written t place v code code_is is =
    let there = output_there plant name written t place v is in
    subst (λ (c : CodeValue). place < length c.outputs) (same_Some there.code code (sym there.code_is ∙ code_is)) there.within

pub no_code : (plant : PlantValue) (name written : List ℕ) (t : TaskRef) (place : ℕ) (v : Value) → code_at plant t ≡ None → expected_at plant name written t place ≡ Some v → ⊥
no_code plant name written t place v none is =
    let there = output_there plant name written t place v is in
    let both : ◌≡◌ {A = Option CodeValue} None (Some there.code) = sym none ∙ there.code_is in
    absurd cc

-- the resource of an expectation is one of the plant
pub resource_within : (plant : PlantValue) (word : List ℕ) (x : Expectation) → IsExpectation plant word x → x.task.resource < length plant.resources
resource_within plant word x is =
    let there = output_there plant (take is.sign word) (drop (is.sign + 1) word) x.task x.place x.value is.expected in
    resource_exists plant x.task there.code there.code_is

below_next : (j task : ℕ) → j < task + 1 → j ≢ task → j < task
below_next j task lt other = omega (arith, lt, other)

-- where nothing was found there is nothing
pub none_found : {A : Type 0} (P : A → Type 0) (found : Option A) → Finds P found → ((x : A) → found ≢ Some x) → (x : A) → P x → ⊥
none_found P None none not = none
none_found P (Some y) none not = λ x p. not y refl

-- where nothing is expected of the first tasks of a resource, and nothing was found of the next one, nothing is of all these
pub none_of_tasks : (plant : PlantValue) (name written : List ℕ) (resource task : ℕ) (found : Option (ℕ × Value))
    → ((j place : ℕ) (v : Value) → j < task → expected_at plant name written (record { resource = resource; task = j }) place ≡ Some v → ⊥)
    → Finds (λ (f : ℕ × Value). expected_at plant name written (record { resource = resource; task = task }) f.0 ≡ Some f.1) found → ((f : ℕ × Value) → found ≢ Some f)
    → (j place : ℕ) (v : Value) → j < task + 1 → expected_at plant name written (record { resource = resource; task = j }) place ≡ Some v → ⊥
none_of_tasks plant name written resource task found first next none j place v lt is = by (cases_eq j task) where
  by : (j ≡ task) ⊎ (j ≢ task) → ⊥
  by (inl same) =
      none_found (λ (f : ℕ × Value). expected_at plant name written (record { resource = resource; task = task }) f.0 ≡ Some f.1) found next none (place, v)
      (subst (λ k. expected_at plant name written (record { resource = resource; task = k }) place ≡ Some v) same is)
  by (inr other) = first j place v (below_next j task lt other) is

-- the task of an expectation is one of a resource
pub task_of_expected : (plant : PlantValue) (name written : List ℕ) (x : Expectation) → IsExpectedOf plant name written x → IsSoundPlant plant → (x.task.resource < length plant.resources) × (x.task.task < length (tasks_at plant x.task.resource))
task_of_expected plant name written x is sound =
    let there = output_there plant name written x.task x.place x.value is in
    by there.code (slice_get plant.resources x.task.resource) refl there.code_is
  where
    by : (c : CodeValue) (o : Option ResourceValue) → slice_get plant.resources x.task.resource ≡ o → slice_get (items_or_none (option_map (λ (r : ResourceValue). r.codes) o)) x.task.task ≡ Some c
        → (x.task.resource < length plant.resources) × (x.task.task < length (items_or_none (option_map (λ (r : ResourceValue). r.tasks) (slice_get plant.resources x.task.resource))))
    by c None e at = cc
    by c (Some r) e at = (
      slice_get_within plant.resources x.task.resource r e,
      subst (λ o. x.task.task < length (items_or_none (option_map (λ (r : ResourceValue). r.tasks) o))) (sym e) (subst (λ n. x.task.task < n) (sound.coded r x.task.resource e) (slice_get_within r.codes x.task.task c at)),
    )

-- where nothing is expected of a resource's tasks, nothing is of the resource
pub none_of_resource : (plant : PlantValue) (name written : List ℕ) (resource : ℕ) → IsSoundPlant plant
    → ((j place : ℕ) (v : Value) → j < length (tasks_at plant resource) → expected_at plant name written (record { resource = resource; task = j }) place ≡ Some v → ⊥)
    → (x : Expectation) → x.task.resource ≡ resource → IsExpectedOf plant name written x → ⊥
none_of_resource plant name written resource sound none x same is =
    let there = task_of_expected plant name written x is sound in
    none x.task.task x.place x.value (subst (λ r. x.task.task < length (tasks_at plant r)) same there.1) (subst (λ r. expected_at plant name written (record { resource = r; task = x.task.task }) x.place ≡ Some x.value) same is)
