-- What a loop leaves that stops before its end.
use Rattle.std.specs.Prelude.{◌≡◌, ◌⊎◌, ℕ, true, List, [], Option, Some}
use Rattle.text_lines.specs.Sending.{SendsPart}
use Rattle.text_lines.specs.declared.read_fault.ReadFault.{ReadFault}
use Rattle.text_lines.specs.declared.read_fault.ReadFault.TheVariants as reading
use Rattle.live_node.specs.NodeAnswers.{Raising}
use Rattle.live_node.specs.Syncing.{Grows}
use Rattle.live_node.specs.declared.node_stop.NodeStop.{NodeStop}
use Rattle.live_node.specs.declared.node_stop.NodeStop.TheVariants.{Note}
use Rattle.live_node.specs.declared.live_stop.LiveStop.TheVariants.{Node, Read, Write, Memory}
use Rattle.cycle.specs.declared.origin.Origin.{Origin}
use Rattle.cycle.specs.declared.origin.Origin.TheVariants.{Field, Neighbours}
use Rattle.cycle.specs.Cycle.{CycleValue}
use Rattle.cycle.specs.Origins.{verdict_of, word_of_line}
use Rattle.field_node.specs.FieldAnswers.{IsUnanswered, StopsAsked, WantsMemory}
use Rattle.field_node.specs.FieldNodes.{inlets_of}
use Rattle.node_loop.specs.declared.ending.Ending.{Ending}
use Rattle.node_loop.specs.declared.told.Told.{Told}
use Rattle.node_loop.specs.declared.told.Told.TheVariants.{Line, TooLong, End, Unread}
use Rattle.node_loop.specs.declared.loop_stop.LoopStop.{LoopStop}
use Rattle.node_loop.specs.declared.loop_stop.LoopStop.TheVariants.{Live, Clock}
use Rattle.node_loop.specs.Given.{Turn, Reads, Takes, with_turn}
use Rattle.node_loop.specs.Turns.{Setting, Condition, Standing, moment_of, IsBefore, IsOver, HaveTurned}

-- why a node stops at what an input told, and what was noted of it
abbrev pub UndoesTold : Raising → Setting → Condition → Origin → Told → NodeStop → Option (List ℕ) → Type 0
UndoesTold raising set s origin (Line line) why noted =
    IsUnanswered raising (verdict_of (inlets_of set.has_field s.cycle) origin (word_of_line line.items)) s.node line.items why s.noted noted
UndoesTold raising set s origin TooLong why noted = WantsMemory why s.noted noted
UndoesTold raising set s origin End why noted = (origin ≡ Field) × WantsMemory why s.noted noted
UndoesTold raising set s origin (Unread fault) why noted = (origin ≡ Field) × WantsMemory why s.noted noted

-- a node stops at what its cycle asks for at a reading
pub record UndoesEvaluation (raising : Raising) (set : Setting) (s : Condition) (reading : ℕ) (why : NodeStop) (noted : Option (List ℕ))
    : Type 0 where
  pub cycle : Option CycleValue
  pub stops : StopsAsked raising set.plant set.resource s.cycle cycle reading s.field s.node why s.noted noted

-- why a node stops at what is given, and what was noted of it
abbrev pub Undoes : Raising → Setting → Condition → Turn → NodeStop → Option (List ℕ) → Type 0
Undoes raising set s (Reads reading) why noted = UndoesEvaluation raising set s reading why noted
Undoes raising set s (Takes origin told) why noted = UndoesTold raising set s origin told why noted

-- what was given last wasn't done by the node
pub record StopsUndone (raising : Raising) (set : Setting) (ending : Ending) (s : Standing) (why : NodeStop) (given : Option (List Turn))
    (noted : Option (List ℕ)) : Type 0 where
  pub turn : Turn
  pub before : IsBefore (moment_of ending.until) turn
  pub given_is : given ≡ with_turn turn s.given
  pub undone : Undoes raising set s.condition turn why noted

-- nothing was noted
abbrev pub IsUnnoted : Standing → Option (List ℕ) → Type 0
IsUnnoted s noted = noted ≡ s.condition.noted

-- Why a loop stops at a turn, and what was given and noted then. Nothing is written of it.
abbrev pub StopsTurn : Raising → Setting → Ending → Standing → Option (List Turn) → Option (List ℕ) → LoopStop → Type 0
StopsTurn raising set ending s given noted (Live (Node why)) = StopsUndone raising set ending s why given noted
StopsTurn raising set ending s given noted (Live Read) = (given ≡ with_turn (Takes Neighbours (Unread reading.Read)) s.given) × IsUnnoted s noted
StopsTurn raising set ending s given noted (Live Write) = ⊥
StopsTurn raising set ending s given noted (Live Memory) = (given ≡ with_turn (Takes Neighbours (Unread reading.Memory)) s.given) × IsUnnoted s noted
StopsTurn raising set ending s given noted Clock = (given ≡ s.given) × IsUnnoted s noted

-- a loop that was going stopped at a turn
pub record StopsAt (raising : Raising) (set : Setting) (ending : Ending) (s : Standing) (given : Option (List Turn))
    (noted : Option (List ℕ)) (stop : LoopStop) : Type 0 where
  pub was_going : s.going ≡ true
  pub stops : StopsTurn raising set ending s given noted stop

-- What was written of texts that couldn't be told, by the cause: nothing, where their notes didn't come to the disk; no more than
-- a beginning, where the output failed, and their notes are on the disk.
abbrev pub LeavesUntold : LoopStop → List ℕ → Option (List ℕ) → Option (List ℕ) → Option (List ℕ) → Option (List ℕ) → Type 0
LeavesUntold (Live (Node why)) text noted synced from to = (why ≡ Note) × (to ≡ from)
LeavesUntold (Live Read) text noted synced from to = ⊥
LeavesUntold (Live Write) text noted synced from to = Grows noted synced × SendsPart text from to
LeavesUntold (Live Memory) text noted synced from to = ⊥
LeavesUntold Clock text noted synced from to = ⊥

-- a node stops for a cause of its own
abbrev pub IsNodes : LoopStop → Type 0
IsNodes (Live (Node why)) = Unit {0}
IsNodes (Live Read) = ⊥
IsNodes (Live Write) = ⊥
IsNodes (Live Memory) = ⊥
IsNodes Clock = ⊥

-- the neighbours' lines can't be read
abbrev pub CannotRead : Option (List Turn) → Option (List Turn) → Type 0
CannotRead given last = (why : ReadFault) × (last ≡ with_turn (Takes Neighbours (Unread why)) given)

-- no turn more was made: nothing was given, or the loop is at its end, or the neighbours' lines can't be read
pub record MakesNoMore (ending : Ending) (s : Standing) (given : Option (List Turn)) (noted : Option (List ℕ)) : Type 0 where
  pub unnoted : IsUnnoted s noted
  pub given_is : (given ≡ s.given) ⊎ IsOver (moment_of ending.until) s.going s.given given ⊎ CannotRead s.given given

-- where a loop stands that has written nothing
abbrev pub with_nothing_written : Standing → Standing
with_nothing_written s = record { condition = s.condition; going = s.going; given = s.given; written = Some [] }

-- Turns were made together, one after the other, each as it should be, and their texts couldn't be told. The node stopped at the
-- next one for a cause of its own; or the loop stopped because they couldn't be told, and no turn more was made.
pub record StopsTogether (raising : Raising) (set : Setting) (ending : Ending) (s : Standing) (given : Option (List Turn))
    (noted synced written : Option (List ℕ)) (stop : LoopStop) : Type 0 where
  pub turns : List Turn
  pub last : Standing
  pub made : HaveTurned raising set ending (with_nothing_written s) turns last
  pub text : List ℕ
  pub text_is : last.written ≡ Some text
  pub untold : LoopStop
  pub leaves : LeavesUntold untold text last.condition.noted synced s.written written
  pub stops : (IsNodes stop × StopsAt raising set ending last given noted stop)
      ⊎ ((stop ≡ untold) × MakesNoMore ending last given noted)

-- Turns were made, one after the other, their texts written, and their notes are on the disk. Then a loop that was going stopped at
-- the next one, of which nothing is written, and all that is noted is on the disk; or it stopped at turns that were made together.
pub record StopsBehind (raising : Raising) (set : Setting) (ending : Ending) (first : Standing) (given : Option (List Turn))
    (noted synced written : Option (List ℕ)) (stop : LoopStop) : Type 0 where
  pub turns : List Turn
  pub last : Standing
  pub turned : HaveTurned raising set ending first turns last
  pub synced_are : Grows last.condition.noted synced
  pub stops : (StopsAt raising set ending last given noted stop × (written ≡ last.written) × (synced ≡ noted))
      ⊎ StopsTogether raising set ending last given noted synced written stop

-- the stop at an input of the neighbours' that can't be read
abbrev pub stop_of : ReadFault → LoopStop
stop_of reading.Read = Live Read
stop_of reading.Memory = Live Memory
