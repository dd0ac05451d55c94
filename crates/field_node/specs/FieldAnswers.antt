-- What a node with a field and a cycle answers, what it notes for it, and what it is then.
use Rattle.std.specs.Prelude.{◌≡◌, ℕ, ◌++◌, ◌⊎◌, max, List, Option, Some, None}
use Rattle.std.specs.Io.KnownBytes.{Keeps}
use Rattle.task_codes.specs.declared.task_ref.TaskRef.{TaskRef}
use Rattle.plant.specs.PlantValue.{PlantValue}
use Rattle.evaluation.specs.declared.field_input.FieldInput.{FieldInput}
use Rattle.evaluation.specs.declared.input_fault.InputFault.{InputFault}
use Rattle.evaluation.specs.declared.input_fault.InputFault.TheVariants as inputs
use Rattle.evaluation.specs.InputTexts.{AreInputs, IsFaultOfWords}
use Rattle.live_node.specs.NodeValue.{NodeValue}
use Rattle.live_node.specs.NodeAnswers.{Raising, IsAnswered}
use Rattle.live_node.specs.Stops.{NotesUnanswered}
use Rattle.live_node.specs.declared.node_stop.NodeStop.{NodeStop}
use Rattle.live_node.specs.declared.node_stop.NodeStop.TheVariants.{Memory}
use Rattle.cycle.specs.declared.asked.Asked.{Asked}
use Rattle.cycle.specs.declared.origin.Verdict.{Verdict}
use Rattle.cycle.specs.declared.origin.Verdict.TheVariants.{Answer, Tell, Refuse}
use Rattle.cycle.specs.declared.field_refusal.FieldRefusal.TheVariants.{Syntax, Twice}
use Rattle.cycle.specs.Cycle.{CycleValue, IsAsked}
use Rattle.cycle.specs.Field.{told_over, words_behind}
use Rattle.cycle.specs.FieldTexts.{cycle_line, overrun_text, refused_line, taken_line}

-- what is written where the words of an INPUT line are refused
abbrev pub IsInputRefused : InputFault → List ℕ → List ℕ → Type 0
IsInputRefused inputs.Syntax from to = to ≡ from ++ refused_line Syntax
IsInputRefused inputs.Twice from to = to ≡ from ++ refused_line Twice
IsInputRefused inputs.Memory from to = ⊥

-- an INPUT line was taken
pub record TakesInputs (old new : List FieldInput) (line from to : List ℕ) : Type 0 where
  pub told : List FieldInput
  pub read : AreInputs (words_behind line) told
  pub new_is : new ≡ told_over old told
  pub written : to ≡ from ++ taken_line

-- an INPUT line was refused
pub record RefusesInputs (old new : List FieldInput) (line from to : List ℕ) : Type 0 where
  pub fault : InputFault
  pub found : IsFaultOfWords (words_behind line) fault
  pub same : new ≡ old
  pub written : IsInputRefused fault from to

-- An INPUT line was answered: its words are what the field is from now on at their addresses, or it is refused.
abbrev pub IsTold : List FieldInput → List FieldInput → List ℕ → List ℕ → List ℕ → Type 0
IsTold old new line from to = TakesInputs old new line from to ⊎ RefusesInputs old new line from to

-- what an answer is about: the node and what its field is, before and behind, what was noted and what was written
pub record Answering : Type 0 where
  pub old : NodeValue
  pub new : NodeValue
  pub field_old : List FieldInput
  pub field_new : List FieldInput
  pub noted_old : Option (List ℕ)
  pub noted_new : Option (List ℕ)
  pub from : List ℕ
  pub to : List ℕ

-- the answer of these parts
abbrev pub answering : NodeValue → NodeValue → List FieldInput → List FieldInput → Option (List ℕ) → Option (List ℕ) → List ℕ
    → List ℕ → Answering
answering old new field_old field_new noted_old noted_new from to =
    record { old = old; new = new; field_old = field_old; field_new = field_new; noted_old = noted_old; noted_new = noted_new; from = from; to = to }

-- the node did nothing
pub record IsIdle (a : Answering) : Type 0 where
  pub same : a.new ≡ a.old
  pub unnoted : Keeps a.noted_old a.noted_new

-- A line was answered, by what is to be done with it: as a node answers it; as one that tells what the field is; or it is
-- refused, and nothing is changed.
abbrev pub IsAnsweredFrom : Raising → Verdict → List ℕ → Answering → Type 0
IsAnsweredFrom raising Answer line a =
    IsAnswered raising a.old a.new line a.noted_old a.noted_new a.from a.to × (a.field_new ≡ a.field_old)
IsAnsweredFrom raising Tell line a = IsIdle a × IsTold a.field_old a.field_new line a.from a.to
IsAnsweredFrom raising (Refuse refusal) line a =
    IsIdle a × (a.field_new ≡ a.field_old) × (a.to ≡ a.from ++ refused_line refusal)

-- memory was wanting, and nothing was noted
pub record WantsMemory (why : NodeStop) (noted_old noted_new : Option (List ℕ)) : Type 0 where
  pub cause : why ≡ Memory
  pub unnoted : Keeps noted_old noted_new

-- why a line isn't answered, and what was noted of it
abbrev pub IsUnanswered : Raising → Verdict → NodeValue → List ℕ → NodeStop → Option (List ℕ) → Option (List ℕ) → Type 0
IsUnanswered raising Answer s line why noted_old noted_new = NotesUnanswered raising s line why noted_old noted_new
IsUnanswered raising Tell s line why noted_old noted_new = WantsMemory why noted_old noted_new
IsUnanswered raising (Refuse refusal) s line why noted_old noted_new = WantsMemory why noted_old noted_new

-- what a cycle asks for at a reading, where there is one; a reading that is earlier than the latest counts as that
abbrev pub AsksOf : Option CycleValue → Option CycleValue → ℕ → Option Asked → Type 0
AsksOf None new reading asked = (new ≡ None) × (asked ≡ None)
AsksOf (Some c) None reading asked = ⊥
AsksOf (Some c) (Some d) reading asked = IsAsked c d (max c.latest reading) asked

-- a task of a resource
abbrev pub task_of : ℕ → Asked → TaskRef
task_of resource asked = record { resource = resource; task = asked.task }

-- what is answered where a cycle asks for this: nothing; or, behind the line that tells what is skipped, as a node answers the
-- EVAL line of that task, with that dt and what the field is
abbrev pub IsDone : Raising → PlantValue → ℕ → Option Asked → Answering → Type 0
IsDone raising plant resource None a = IsIdle a × (a.to ≡ a.from)
IsDone raising plant resource (Some asked) a =
    let t = task_of resource asked in
    IsAnswered raising a.old a.new (cycle_line plant t asked.dt a.field_old) a.noted_old a.noted_new
    (a.from ++ overrun_text plant t asked.skipped) a.to

-- why what a cycle asks for isn't done, and what was noted of it
abbrev pub IsUndone : Raising → PlantValue → ℕ → Option Asked → List FieldInput → NodeValue → NodeStop → Option (List ℕ) → Option (List ℕ) → Type 0
IsUndone raising plant resource None field s why noted_old noted_new = WantsMemory why noted_old noted_new
IsUndone raising plant resource (Some asked) field s why noted_old noted_new =
    WantsMemory why noted_old noted_new
    ⊎ NotesUnanswered raising s (cycle_line plant (task_of resource asked) asked.dt field) why noted_old noted_new

-- why a node stops that is asked at a reading what its cycle asks for
pub record StopsAsked (raising : Raising) (plant : PlantValue) (resource : ℕ) (old new : Option CycleValue) (reading : ℕ)
    (field : List FieldInput) (s : NodeValue) (why : NodeStop) (noted_old noted_new : Option (List ℕ)) : Type 0 where
  pub asked : Option Asked
  pub asks : AsksOf old new reading asked
  pub undone : IsUndone raising plant resource asked field s why noted_old noted_new
