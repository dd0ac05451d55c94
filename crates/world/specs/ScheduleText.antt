-- Schedules: which texts spell a list of events.
use Rattle.std.specs.Prelude.{◌≡◌, ℕ, ◌+◌, ◌==◌, Bool, true, false, not, IsTrue, List, [], ◌∷◌, ◌++◌, map, filter, codes, Some}
use Rattle.std.specs.List.{position_or_len}
use Rattle.words.specs.Lines.{lines_of, without_last}
use Rattle.words.specs.Chars.{same_word, is_plain_name}
use Rattle.words.specs.Numbers.{number_up_to}
use Rattle.task_codes.specs.declared.task_ref.TaskRef.{TaskRef}
use Rattle.plant.specs.PlantValue.{PlantValue, ResourceValue, TaskValue, tasks_at}
use Rattle.evaluation.specs.declared.field_input.FieldInput.{FieldInput}
use Rattle.evaluation.specs.InputTexts.{words_of, AreInputs}
use Rattle.world.specs.declared.event.Event.{Event}
use Rattle.world.specs.declared.event.Event.TheVariants.{Evaluate, Deliver, Restart, Hear}

-- the place of the resource of a name, in either case; without one the number of resources, where none stands
abbrev pub resource_named : PlantValue → List ℕ → ℕ
resource_named plant name = position_or_len (λ (r : ResourceValue). same_word name r.name) plant.resources

-- the place of the task of a name in a resource, in either case; without one the number of its tasks, where none stands
abbrev pub task_in : PlantValue → ℕ → List ℕ → ℕ
task_in plant resource name = position_or_len (λ (t : TaskValue). same_word name t.name) (tasks_at plant resource)

-- the word is an identifier, not reserved, and names the resource at this place
pub record IsResourceWord (plant : PlantValue) (word : List ℕ) (resource : ℕ) : Type 0 where
  pub name : IsTrue (is_plain_name word)
  pub resource_is : resource ≡ resource_named plant word

-- the word is two identifiers, not reserved, with a dot between them: the resource's name and the task's
pub record IsTaskWord (plant : PlantValue) (word : List ℕ) (t : TaskRef) : Type 0 where
  pub owner : List ℕ
  pub name : List ℕ
  pub word_is : word ≡ owner ++ codes "." ++ name
  pub owner_is : IsResourceWord plant owner t.resource
  pub named : IsTrue (is_plain_name name)
  pub task_is : t.task ≡ task_in plant t.resource name

-- the words behind EVAL: a task, the elapsed milliseconds, and field inputs
abbrev pub SpellsEvaluate : PlantValue → TaskRef → ℕ → List FieldInput → List (List ℕ) → Type 0
SpellsEvaluate plant task dt inputs [] = ⊥
SpellsEvaluate plant task dt inputs (first ∷ []) = ⊥
SpellsEvaluate plant task dt inputs (first ∷ second ∷ more) =
    IsTaskWord plant first task × (number_up_to 4294967295 second ≡ Some dt) × AreInputs more inputs

-- the words behind DELIVER: a message, and a resource
abbrev pub SpellsDeliver : PlantValue → ℕ → ℕ → List (List ℕ) → Type 0
SpellsDeliver plant message resource [] = ⊥
SpellsDeliver plant message resource (first ∷ []) = ⊥
SpellsDeliver plant message resource (first ∷ second ∷ []) =
    (number_up_to 18446744073709551615 first ≡ Some message) × IsResourceWord plant second resource
SpellsDeliver plant message resource (first ∷ second ∷ third ∷ more) = ⊥

-- the words behind RESTART: a resource
abbrev pub SpellsRestart : PlantValue → ℕ → List (List ℕ) → Type 0
SpellsRestart plant resource [] = ⊥
SpellsRestart plant resource (first ∷ []) = IsResourceWord plant first resource
SpellsRestart plant resource (first ∷ second ∷ more) = ⊥

-- the words behind HEAR: a resource, the one of which it hears, and an incarnation
abbrev pub SpellsHear : PlantValue → ℕ → ℕ → ℕ → List (List ℕ) → Type 0
SpellsHear plant resource of incarnation [] = ⊥
SpellsHear plant resource of incarnation (first ∷ []) = ⊥
SpellsHear plant resource of incarnation (first ∷ second ∷ []) = ⊥
SpellsHear plant resource of incarnation (first ∷ second ∷ third ∷ []) =
    IsResourceWord plant first resource × IsResourceWord plant second of
    × (number_up_to 4294967295 third ≡ Some incarnation)
SpellsHear plant resource of incarnation (first ∷ second ∷ third ∷ fourth ∷ more) = ⊥

-- the words of a line spell the event of this number, which is an evaluation's ticket; keywords stand in either case
abbrev pub SpellsEvent : PlantValue → ℕ → Event → List (List ℕ) → Type 0
SpellsEvent plant number e [] = ⊥
SpellsEvent plant number (Evaluate ticket task dt inputs) (keyword ∷ more) =
    IsTrue (same_word keyword (codes "EVAL")) × (ticket ≡ number) × SpellsEvaluate plant task dt inputs more
SpellsEvent plant number (Deliver message resource) (keyword ∷ more) =
    IsTrue (same_word keyword (codes "DELIVER")) × SpellsDeliver plant message resource more
SpellsEvent plant number (Restart resource) (keyword ∷ more) =
    IsTrue (same_word keyword (codes "RESTART")) × SpellsRestart plant resource more
SpellsEvent plant number (Hear resource of incarnation) (keyword ∷ more) =
    IsTrue (same_word keyword (codes "HEAR")) × SpellsHear plant resource of incarnation more

-- they spell no event
abbrev pub SpellsNoEvent : PlantValue → ℕ → List (List ℕ) → Type 0
SpellsNoEvent plant number words = (e : Event) → SpellsEvent plant number e words → ⊥

-- a word begins with `#`
abbrev pub is_marked : List ℕ → Bool
is_marked [] = false
is_marked (c ∷ more) = c == 35

-- a line of these words is blank, or a comment: its first character that is no blank or tab is `#`
abbrev pub is_idle : List (List ℕ) → Bool
is_idle [] = true
is_idle (word ∷ more) = is_marked word

-- the words of each line of a text; a line ends with a line feed, and one carriage return at its end is dropped
abbrev pub schedule_lines : List ℕ → List (List (List ℕ))
schedule_lines text = map (λ line. words_of (without_last 13 line)) (lines_of text)

-- these lines, blank ones and comments aside, spell these events, in order; the first of them has this number
abbrev pub SpellEvents : PlantValue → ℕ → List Event → List (List (List ℕ)) → Type 0
SpellEvents plant number [] [] = Unit {0}
SpellEvents plant number [] (line ∷ lines) = ⊥
SpellEvents plant number (e ∷ events) [] = ⊥
SpellEvents plant number (e ∷ events) (line ∷ lines) =
    SpellsEvent plant number e line × SpellEvents plant (number + 1) events lines

-- these lines spell these events, counted from 1: blank lines and comments aside, the k-th line spells event k
abbrev pub Spell : PlantValue → List Event → List (List (List ℕ)) → Type 0
Spell plant events lines = SpellEvents plant 1 events (filter (λ line. not (is_idle line)) lines)

-- a text spells these events
abbrev pub IsSchedule : PlantValue → List Event → List ℕ → Type 0
IsSchedule plant events text = Spell plant events (schedule_lines text)

-- no event is spelled by this line, and it is no comment and not blank
pub record IsBadLine (plant : PlantValue) (number : ℕ) (line : List (List ℕ)) : Type 0 where
  pub busy : is_idle line ≡ false
  pub unspelled : SpellsNoEvent plant number line
