-- What a core is, and what it answers.
use Rattle.std.specs.Prelude.{◌≡◌, ◌≢◌, ℕ, ◌+◌, ◌<◌, ◌≤◌, ◌==◌, ◌&&◌, Bool, true, false, not, nat_lt, List, [], Option, Some, None, is_some, length, map, slice_set, slice_index, slice_index_or, if◌then◌else◌}
use Rattle.std_blocks.specs.declared.value.Value.{Value}
use Rattle.declared_names.specs.Kinds.{kind_of}
use Rattle.task_codes.specs.declared.task_ref.TaskRef.{TaskRef}
use Rattle.plant.specs.PlantValue.{PlantValue, code_at}
use Rattle.task_codes.specs.CodeValue.{CodeValue}
use Rattle.evaluation.specs.declared.field_input.FieldInput.{FieldInput}
use Rattle.evaluation.specs.declared.name.Name.{Name}
use Rattle.evaluation.specs.Names.{precedes}
use Rattle.evaluation.specs.Meaning.{Evaluated, IsAsked}
use Rattle.exchange_core.specs.declared.accepted.Accepted.{Accepted}
use Rattle.exchange_core.specs.declared.accepted.Accepted.TheVariants.{Taken, Old, Unused, Stray}
use Rattle.exchange_core.specs.declared.eval_fault.EvalFault.{EvalFault}
use Rattle.exchange_core.specs.declared.eval_fault.EvalFault.TheVariants.{NoSuchTask, NumbersSpent, Memory}
use Rattle.evaluation.specs.Heard.{is_addressed}
use Rattle.evaluation.specs.Last.{state_from, left_by, takes_of, last_number}
use Rattle.exchange_core.specs.Held.{Table, known, with_known, empty_for}
pub use Rattle.exchange_core.specs.Openings.{AreOpeningOf, initial_opening, IsCoreFault, Expects}

-- A core: its plant, its resource, the first incarnation of each resource, its own incarnation, the incarnation of each
-- resource of which it has heard, the greatest number, for each task of its resource the retained values with which it
-- began this incarnation, and the last evaluation known of each task: of a task of its own resource the last one made in
-- this incarnation, of any other the one held.
pub record CoreValue : Type 0 where
  pub plant : PlantValue
  pub resource : ℕ
  pub first : List ℕ
  pub incarnation : ℕ
  pub heard : List ℕ
  pub max_number : ℕ
  pub kept : List (List Value)
  pub table : Table

-- the core of these parts
abbrev pub core_of : PlantValue → ℕ → List ℕ → ℕ → List ℕ → ℕ → List (List Value) → Table → CoreValue
core_of plant resource first incarnation heard max_number kept table =
    record {
      plant = plant;
      resource = resource;
      first = first;
      incarnation = incarnation;
      heard = heard;
      max_number = max_number;
      kept = kept;
      table = table;
    }

-- a core in this incarnation that holds nothing, whose tasks begin with these retained values:
-- of each other resource it has heard the first incarnation
abbrev pub fresh_core : PlantValue → ℕ → List ℕ → ℕ → List (List Value) → ℕ → CoreValue
fresh_core plant resource first incarnation opening max_number =
    core_of plant resource first incarnation (slice_set first resource incarnation) max_number opening (empty_for plant)

-- a task of the core's resource
abbrev pub own_task : CoreValue → ℕ → TaskRef
own_task core task = record { resource = core.resource; task = task }

-- an evaluation is of use: it is of another resource's task, from which a task here takes,
-- and its image has the kinds expected
pub record IsUsable (core : CoreValue) (x : Evaluated) : Type 0 where
  pub another : x.name.task.resource ≢ core.resource
  pub expected : Expects core.plant core.resource x.name.task (map kind_of x.outputs)

-- its pair is greater than that of what is known of its task
abbrev pub is_greater : Option Evaluated → Name → Bool
is_greater None name = true
is_greater (Some y) name = precedes y.name name

-- an evaluation is addressed to the core's incarnation
abbrev pub is_for : CoreValue → Evaluated → Bool
is_for core x = is_addressed x core.resource core.incarnation

-- what is answered to an evaluation, and the core afterwards: only Taken changes it
abbrev pub IsAccepted : CoreValue → CoreValue → Evaluated → Accepted → Type 0
IsAccepted old new x Unused = (IsUsable old x → ⊥) × (new ≡ old)
IsAccepted old new x Stray = IsUsable old x × (is_for old x ≡ false) × (new ≡ old)
IsAccepted old new x Old =
    IsUsable old x × (is_for old x ≡ true) × (is_greater (known old.table x.name.task) x.name ≡ false) × (new ≡ old)
IsAccepted old new x Taken =
    IsUsable old x × (is_for old x ≡ true) × (is_greater (known old.table x.name.task) x.name ≡ true)
    × (new ≡ record old { table = with_known old.table x.name.task (Some x) })

-- an incarnation is news: it is that of another resource that exists, and greater than the one heard of it
abbrev pub is_news : CoreValue → ℕ → ℕ → Bool
is_news core of incarnation =
    not (of == core.resource)
    && (nat_lt of (length core.plant.resources) && nat_lt (slice_index core.heard of) incarnation)

-- what is answered when a resource's incarnation is heard, and the core afterwards: only news changes it
pub record HasHeard (old new : CoreValue) (of incarnation : ℕ) (answer : Bool) : Type 0 where
  pub answer_is : answer ≡ is_news old of incarnation
  pub after : new ≡ (if answer then record old { heard = slice_set old.heard of incarnation } else old)

-- what is known of one of its tasks
abbrev pub own_last : CoreValue → ℕ → Option Evaluated
own_last core task = known core.table (own_task core task)

-- the name of the next evaluation of one of its tasks
abbrev pub next_name_of : CoreValue → ℕ → Name
next_name_of core task =
    record { task = own_task core task; incarnation = core.incarnation; number = last_number (own_last core task) + 1 }

-- the retained values with which one of its tasks began this incarnation
abbrev pub kept_at : CoreValue → ℕ → List Value
kept_at core task = slice_index_or core.kept task []

-- x is what this code makes, asked with what has been heard, what is known of each producer and the task's state:
-- the one that its last evaluation left, or the warm state of what it began with
abbrev pub IsAskedOf : CoreValue → ℕ → Name → ℕ → List FieldInput → CodeValue → Evaluated → Type 0
IsAskedOf core ticket name dt inputs code x =
    IsAsked ticket name core.heard dt inputs (takes_of (known core.table) code)
    (state_from code (kept_at core name.task.task) (known core.table name.task)) code x

-- x is the next evaluation of one of its tasks: the plant's code,
-- asked with what is known of each producer and the task's state
pub record IsNextOf (core : CoreValue) (ticket task dt : ℕ) (inputs : List FieldInput) (x : Evaluated) : Type 0 where
  pub code : CodeValue
  pub found : code_at core.plant (own_task core task) ≡ Some code
  pub below : last_number (own_last core task) < core.max_number
  pub asked : IsAskedOf core ticket (next_name_of core task) dt inputs code x

-- x was made next, and from then on it is what is known of that task
pub record IsNext (old new : CoreValue) (ticket task dt : ℕ) (inputs : List FieldInput) (x : Evaluated) : Type 0 where
  pub next : IsNextOf old ticket task dt inputs x
  pub after : new ≡ record old { table = with_known old.table (own_task old task) (Some x) }

-- A core after a restart in this incarnation: it holds nothing, and of each other resource it has heard the first
-- incarnation. Of each of its tasks the retained variables outlive the restart: as the task's last evaluation left them,
-- or as it began with them, where it hasn't been evaluated since.
pub record IsRestartOf (old new : CoreValue) (incarnation : ℕ) : Type 0 where
  pub is : new ≡ fresh_core old.plant old.resource old.first incarnation new.kept old.max_number
  pub long : length new.kept ≡ length old.kept
  pub kept : (task : ℕ) → task < length old.kept → kept_at new task ≡ left_by (kept_at old task) (own_last old task)

-- the core's resource has a task
abbrev pub HasOwnTask : CoreValue → ℕ → Type 0
HasOwnTask core task = is_some (code_at core.plant (own_task core task)) ≡ true

-- a task can be evaluated next: the resource has it, and its numbers aren't spent
abbrev pub IsDue : CoreValue → ℕ → Type 0
IsDue core task = HasOwnTask core task × (last_number (own_last core task) < core.max_number)

-- why a task is not evaluated: the first cause that holds; memory is wanting only where it could be
abbrev pub IsEvalFault : CoreValue → ℕ → EvalFault → Type 0
IsEvalFault core task NoSuchTask = code_at core.plant (own_task core task) ≡ None
IsEvalFault core task NumbersSpent = HasOwnTask core task × (core.max_number ≤ last_number (own_last core task))
IsEvalFault core task Memory = IsDue core task

-- what is held of a task of another resource; nothing of a task of its own
abbrev pub held_of : CoreValue → TaskRef → Option Evaluated
held_of core p = if p.resource == core.resource then None else known core.table p
