-- The words of the field that are 0 in all runs that are looked at.
use Rattle.std.specs.Prelude.{◌≡◌, ◌↔◌, ◌==◌, ◌&&◌, ◌++◌, ℕ, zero, suc, Bool, true, false, not, List, [], ◌∷◌, if◌then◌else◌, length, map}
use Rattle.std.specs.List.{flat_map, list_any}
use Rattle.std.specs.Option.{option_map_or}
use Rattle.lists.specs.Among.{Among}
use Rattle.words.specs.declared.address.Address.{Address}
use Rattle.words.specs.declared.address.Space.{Space}
use Rattle.words.specs.declared.address.Space.TheVariants.{Bit, Word}
use Rattle.task_codes.specs.declared.binding.Binding.{Binding}
use Rattle.task_codes.specs.declared.binding.Source.{Source}
use Rattle.task_codes.specs.declared.binding.Source.TheVariants.{Field, Given}
use Rattle.task_codes.specs.declared.task_ref.TaskRef.{TaskRef}
use Rattle.task_codes.specs.CodeValue.{CodeValue}
use Rattle.plant.specs.PlantValue.{PlantValue, code_at, producers_at, tasks_at}
use Rattle.evaluation.specs.Inputs.{same_address}
use Rattle.plant_claims.specs.declared.output.Output.{Output}
use Rattle.plant_claims.specs.declared.field_range.FieldRange.{FieldRange}
use Rattle.plant_claims.specs.Claims.{Question, range_address}

-- the tasks of outputs
abbrev pub tasks_of : List Output → List TaskRef
tasks_of outputs = map (λ (o : Output). o.task) outputs

-- the tasks of what is given and of claims
abbrev pub asked_tasks : List Output → List (List Output) → List TaskRef
asked_tasks given claims = tasks_of given ++ flat_map tasks_of claims

-- a task is one of these, or one from which such a task takes, over others too
pub data IsReached (plant : PlantValue) (tasks : List TaskRef) : TaskRef → Type 0 where
  listed : {t : TaskRef} → Among t tasks → IsReached plant tasks t
  taken : {t p : TaskRef} → IsReached plant tasks t → Among p (producers_at plant t) → IsReached plant tasks p

abbrev pub is_word : Space → Bool
is_word Bit = false
is_word Word = true

-- words tell what an address holds
abbrev pub is_told : List FieldRange → Address → Bool
is_told ranges a = list_any (λ r. same_address (range_address r) a) ranges

-- an address is that of a word of which none tells
abbrev pub is_zero_word : List FieldRange → Address → Bool
is_zero_word ranges a = is_word a.space && not (is_told ranges a)

-- the number of the word from which a source reads, if it is such a one
abbrev pub zero_word : List FieldRange → Source → List ℕ
zero_word ranges (Field a) = if is_zero_word ranges a then a.number ∷ [] else []
zero_word ranges (Given p o) = []

-- those that the inputs of a task read, program by program
abbrev pub zero_words_of : List FieldRange → CodeValue → List ℕ
zero_words_of ranges c = flat_map (flat_map (λ (b : Binding). zero_word ranges b.source)) c.bindings

-- those that a task reads, if it is looked at
abbrev pub zero_words_at : Question → (TaskRef → Bool) → TaskRef → List ℕ
zero_words_at q looks t = if looks t then option_map_or (zero_words_of q.ranges) (code_at q.plant t) [] else []

-- the first tasks of a resource
abbrev pub first_tasks : ℕ → ℕ → List TaskRef
first_tasks r zero = []
first_tasks r (suc k) = first_tasks r k ++ (record { resource = r; task = k }) ∷ []

-- the tasks of the first resources
abbrev pub tasks_before : PlantValue → ℕ → List TaskRef
tasks_before plant zero = []
tasks_before plant (suc r) = tasks_before plant r ++ first_tasks r (length (tasks_at plant r))

-- a number behind others, unless it is one of them
abbrev pub with_number : List ℕ → ℕ → List ℕ
with_number numbers n = if list_any (λ m. m == n) numbers then numbers else numbers ++ n ∷ []

abbrev pub with_numbers : List ℕ → List ℕ → List ℕ
with_numbers numbers [] = numbers
with_numbers numbers (n ∷ more) = with_numbers (with_number numbers n) more

-- The words that are 0 in all runs: those that tasks read that are looked at, and of which none tells, by first mention in
-- the plant's tasks.
pub record AreZeroWords (q : Question) (claims : List (List Output)) (numbers : List ℕ) : Type 0 where
  pub looks : TaskRef → Bool
  pub reached : (t : TaskRef) → (looks t ≡ true) ↔ IsReached q.plant (asked_tasks q.given claims) t
  pub whole : numbers ≡ with_numbers [] (flat_map (zero_words_at q looks) (tasks_before q.plant (length q.plant.resources)))
