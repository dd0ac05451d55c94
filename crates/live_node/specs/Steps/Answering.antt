-- A node takes a line and answers it.
use Rattle.std.specs.Prelude.{◌≡◌, ◌≢◌, ℕ, ◌<◌, ◌++◌, ◌⊎◌, Bool, true, false, List, [], Option, Some, Ok, Err, codes}
use Rattle.std.specs.Io.KnownBytes.{Appends, Consumes, IsAtEnd, Keeps}
use Rattle.task_codes.specs.CodeValue.{CodeValue}
use Rattle.task_codes.specs.declared.task_ref.TaskRef.{TaskRef}
use Rattle.plant.specs.PlantValue.{PlantValue, code_at}
use Rattle.exchange_core.specs.MessageCoreValue.{MessageCoreValue}
use Rattle.keepers.specs.Keepers.{Telling}
use Rattle.keepers.specs.declared.keeper_fault.KeeperFault.{KeeperFault}
use Rattle.keepers.specs.declared.keeper_fault.KeeperFault.TheVariants as keeping
use Rattle.text_lines.specs.Sending.{SendsPart}
use Rattle.text_lines.specs.declared.read_fault.ReadFault.{ReadFault}
use Rattle.text_lines.specs.declared.read_fault.ReadFault.TheVariants as reading
use Rattle.live_node.specs.declared.node_line.NodeLine.{NodeLine}
use Rattle.live_node.specs.Sends.{greetings}
use Rattle.live_node.specs.Answers.{risen_line}
use Rattle.live_node.specs.NodeJournal.{line_note, restart_note}
use Rattle.live_node.specs.NodeValue.{NodeValue}
use Rattle.live_node.specs.NodeSteps.{HasRisen, IsNotRefused}
use Rattle.live_node.specs.declared.node_stop.NodeStop.{NodeStop}
use Rattle.live_node.specs.declared.node_stop.NodeStop.TheVariants as ends
use Rattle.live_node.specs.declared.live_stop.LiveStop.{LiveStop}
use Rattle.live_node.specs.declared.live_stop.LiveStop.TheVariants.{Read, Write, Memory}
use Rattle.live_node.specs.NodeAnswers.{Raising, AnswersAsked}
use Rattle.live_node.specs.LiveNode.{AnswersLine}
use Rattle.live_node.specs.Stops.{IsNotedAsked}
use Rattle.live_node.specs.TakenLines.{TakesLine}

-- The resource was restarted in this incarnation; the note stands behind what was noted, and what is written behind
-- what was written.
pub record HasRisenTo (old new : NodeValue) (incarnation : ℕ) (noted_old noted_new : Option (List ℕ))
    (out_old out_new : List ℕ) : Type 0 where
  pub risen : HasRisen old new incarnation
  pub noted : Appends noted_old noted_new (restart_note old.core.plant old.core.resource incarnation)
  pub written : out_new
      ≡ out_old
      ++ (greetings old.core.plant old.core.resource incarnation
      ++ risen_line (codes "RESTART") old.core.plant old.core.resource incarnation)

-- what a line asks was answered; the note stands behind what was noted, the answer behind what was written
pub record IsAnsweredBy (raising : Raising) (old new : NodeValue) (line : List ℕ) (asked : Option NodeLine)
    (noted_old noted_new : Option (List ℕ)) (out_old out_new : List ℕ) : Type 0 where
  pub note : List ℕ
  pub text : List ℕ
  pub answered : AnswersAsked raising old new line asked note text
  pub noted : Appends noted_old noted_new note
  pub written : out_new ≡ out_old ++ text

-- a line was taken, and answered
pub record AnswersTaken (raising : Raising) (old new : NodeValue)
    (given left noted_old noted_new from to : Option (List ℕ)) (fed : Bool) : Type 0 where
  pub line : List ℕ
  pub taken : TakesLine given left line fed
  pub note : List ℕ
  pub text : List ℕ
  pub answered : AnswersLine raising old new line note text
  pub noted : Appends noted_old noted_new note
  pub written : Appends from to text

-- nothing was left
pub record HasEnded (old new : NodeValue) (given left noted_old noted_new from to : Option (List ℕ)) : Type 0 where
  pub same : new ≡ old
  pub none : Consumes given left []
  pub end : IsAtEnd left
  pub unnoted : Keeps noted_old noted_new
  pub unwritten : Keeps from to

-- the next line was taken, and answered; or nothing was left
abbrev pub HasAnsweredNext : Raising → NodeValue → NodeValue → Option (List ℕ) → Option (List ℕ) → Option (List ℕ)
    → Option (List ℕ) → Option (List ℕ) → Option (List ℕ) → Bool → Type 0
HasAnsweredNext raising old new given left noted_old noted_new from to true =
    AnswersTaken raising old new given left noted_old noted_new from to true
HasAnsweredNext raising old new given left noted_old noted_new from to false =
    HasEnded old new given left noted_old noted_new from to
    ⊎ AnswersTaken raising old new given left noted_old noted_new from to false

-- why a node stops whose next line can't be read
abbrev pub stop_of : ReadFault → LiveStop
stop_of reading.Read = Read
stop_of reading.Memory = Memory

-- why a node stops whose keeper has a fault
abbrev pub stop_for : KeeperFault → NodeStop
stop_for keeping.Unreadable = ends.Keeper keeping.Unreadable
stop_for keeping.Unwritable = ends.Keeper keeping.Unwritable
stop_for keeping.Spent = ends.Keeper keeping.Spent
stop_for keeping.Memory = ends.Memory

-- a node didn't stop for its keeper
abbrev pub IsNotKeepers : NodeStop → Type 0
IsNotKeepers (ends.Keeper fault) = ⊥
IsNotKeepers ends.Note = Unit {0}
IsNotKeepers ends.Memory = Unit {0}

-- what was noted of an evaluation that isn't answered
abbrev pub NotesUnevaluated : MessageCoreValue → TaskRef → List ℕ → NodeStop → Option (List ℕ) → Option (List ℕ) → Type 0
NotesUnevaluated core t line (ends.Keeper fault) noted_old noted_new =
    (fault ≡ keeping.Unwritable) × IsNotRefused core t × Appends noted_old noted_new (line_note line)
NotesUnevaluated core t line ends.Note noted_old noted_new =
    IsNotRefused core t × SendsPart (line_note line) noted_old noted_new
NotesUnevaluated core t line ends.Memory noted_old noted_new =
    Keeps noted_old noted_new ⊎ (IsNotRefused core t × SendsPart (line_note line) noted_old noted_new)

-- what was noted of a line that asks this and isn't answered, though the keeper has no fault
abbrev pub NotesUndone : NodeValue → NodeLine → List ℕ → NodeStop → Option (List ℕ) → Option (List ℕ) → Type 0
NotesUndone s asked line (ends.Keeper fault) noted_old noted_new = ⊥
NotesUndone s asked line ends.Note noted_old noted_new =
    IsNotedAsked s asked × SendsPart (line_note line) noted_old noted_new
NotesUndone s asked line ends.Memory noted_old noted_new =
    Keeps noted_old noted_new ⊎ (IsNotedAsked s asked × SendsPart (line_note line) noted_old noted_new)

-- why a keeper tells nothing of the tasks of a resource, as a node stops then
abbrev pub TellsNothing : Telling → PlantValue → ℕ → NodeStop → Type 0
TellsNothing tells plant n (ends.Keeper fault) =
    (fault ≢ keeping.Memory)
    × ((task : ℕ) × (code : CodeValue) × (code_at plant (record { resource = n; task = task }) ≡ Some code) × tells task code (Err fault))
TellsNothing tells plant n ends.Note = ⊥
TellsNothing tells plant n ends.Memory = Unit {0}

-- no more than a beginning of the note of a restart of this resource was noted, to which the keeper was raised
pub record NotesRestartPart (raising : Raising) (s : NodeValue) (n : ℕ) (noted_old noted_new : Option (List ℕ)) : Type 0 where
  pub here : n ≡ s.core.resource
  pub incarnation : ℕ
  pub raised : raising s.core.incarnation (Ok incarnation)
  pub above : s.core.incarnation < incarnation
  pub sent : SendsPart (restart_note s.core.plant s.core.resource incarnation) noted_old noted_new

-- what was noted of a restart that isn't answered
abbrev pub NotesUnrisen : Raising → NodeValue → ℕ → NodeStop → Option (List ℕ) → Option (List ℕ) → Type 0
NotesUnrisen raising s n (ends.Keeper fault) noted_old noted_new = ⊥
NotesUnrisen raising s n ends.Note noted_old noted_new = NotesRestartPart raising s n noted_old noted_new
NotesUnrisen raising s n ends.Memory noted_old noted_new =
    Keeps noted_old noted_new ⊎ NotesRestartPart raising s n noted_old noted_new

-- no more than a beginning of a text was written
abbrev pub IsUnwritten : List ℕ → Option (List ℕ) → Option (List ℕ) → LiveStop → Type 0
IsUnwritten text from to stop = (stop ≡ Write) × SendsPart text from to
